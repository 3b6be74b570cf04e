-- The tables in which the loads are gathered flow by flow. No promise of the product cites these.
use Rattle.std.specs.Prelude.{ℕ, ◌+◌, ◌*◌, ◌^◌, ◌≤◌, ◌<◌, ◌≡◌, Bool, true, false, List, length, get_or, Option, Some, None}
use Rattle.model.specs.Limits.{most_links, most_flows, most_tunnels, most_steps, most_amount}
use Rattle.model.specs.Sets.{in_set}
use Rattle.lists.specs.Lists.{at}
use Rattle.loads.specs.Gathered.{gathered, of_flow, gathered_by_flow}
use Rattle.loads.specs.Tables.{block_rows, number_at, load_at, loads_size, in_part}

-- ---- chains

-- a number that the tunnels of a chain are below: 1 more than the last, or 0
abbrev pub chain_end : Option ℕ → ℕ
chain_end None = 0
chain_end (Some t) = t + 1

abbrev pub chain_at : List (Option ℕ) → ℕ → ℕ
chain_at s i = chain_end (get_or s i None)

-- of the first n tunnels the last that c picks has m, and m is 0 where it picks none
pub record LastOf (c : ℕ → Bool) (n m : ℕ) : Type 0 where
  pub low : m ≤ n
  pub none : (t : ℕ) → m ≤ t → t < n → c t ≡ false
  pub own : (t : ℕ) → m ≡ t + 1 → c t ≡ true

-- from m on, downward, the chain has those of the first n tunnels that c picks
pub record Chain (c : ℕ → Bool) (prior : List (Option ℕ)) (n m : ℕ) : Type 0 where
  pub start : LastOf c n m
  pub on : (t : ℕ) → t < n → c t ≡ true → LastOf c t (chain_at prior t)

-- the chains of all flows
pub record Chains (flow : ℕ → ℕ) (n : ℕ) (last prior : List (Option ℕ)) : Type 0 where
  pub size : (length last ≡ most_flows) × (length prior ≡ most_tunnels)
  pub starts : (f : ℕ) → f < most_flows → LastOf (of_flow flow f) n (chain_at last f)
  pub on : (t : ℕ) → t < n → LastOf (of_flow flow (flow t)) t (chain_at prior t)

-- below m they lead downward
pub record Downward (prior : List (Option ℕ)) (m : ℕ) : Type 0 where
  pub size : length prior ≡ most_tunnels
  pub each : (t : ℕ) → t < m → chain_at prior t ≤ t

-- ---- a flow's sums: a vector for each link

abbrev pub sums_size : ℕ
sums_size = block_rows * most_links

-- no sum is over that of all tunnels' amounts
pub record SumsWithin (links : ℕ) (sums : List ℕ) : Type 0 where
  pub size : length sums ≡ sums_size
  pub most : (l k : ℕ) → l < links → k < block_rows → at sums (number_at l k) ≤ most_tunnels * (most_amount * most_steps)

-- what the tunnels of the chain from m gather in each row: none but on the links of a set
pub record ChainSums (links : ℕ) (via : ℕ → ℕ) (prior : List (Option ℕ)) (m : ℕ) (amounts : List ℕ) (set : ℕ) (sums : List ℕ) : Type 0 where
  pub within : SumsWithin links sums
  pub links_of : set < 2 ^ links
  pub outside : (l k : ℕ) → l < links → k < block_rows → in_set set l ≡ false → at sums (number_at l k) ≡ 0
  pub each : (c : ℕ → Bool) (n : ℕ) → Chain c prior n m → (l k : ℕ) → l < links → k < block_rows
      → at sums (number_at l k) ≡ gathered via c (λ t. at amounts (number_at t k)) n l

-- the loads of both parts after the first m flows, by their classes: of windows that have so many rows after the first and lie in the block
pub record FlowLoads (links : ℕ) (via flow : ℕ → ℕ) (n : ℕ) (class : ℕ → ℕ) (m times : ℕ) (amounts loads : List ℕ) : Type 0 where
  pub size : length loads ≡ loads_size
  pub each : (q l k : ℕ) → q < 2 → l < links → k + times < block_rows
      → at loads (load_at l q k) ≡ gathered_by_flow via flow (in_part class q) times (λ a t. at amounts (number_at t (k + a))) n m l
