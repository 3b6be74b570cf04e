-- The tables in which a pass gathers the loads of a block of steps at once. No promise of the product cites these.
use Rattle.std.specs.Prelude.{ℕ, ◌+◌, ◌*◌, ◌^◌, ◌≤◌, ◌<◌, ◌≡◌, ◌≢◌, Bool, cond, List, eqb, leb, length}
use Rattle.model.specs.Limits.{most_links, most_tunnels, most_steps, most_amount}
use Rattle.model.specs.Net.{Net}
use Rattle.lists.specs.Lists.{at}
use Rattle.loads.specs.Gathered.{gathered}

-- a vector has a number for each row of a block, and a table has vectors
abbrev pub block_rows : ℕ
block_rows = 11

abbrev pub number_at : ℕ → ℕ → ℕ
number_at j k = block_rows * j + k

-- the first n vectors are there
pub record Vectors (n : ℕ) (s : List ℕ) : Type 0 where
  pub few : n ≤ 2 * most_links
  pub room : block_rows * n ≤ length s

-- ---- amounts: a vector for each tunnel

abbrev pub amounts_size : ℕ
amounts_size = block_rows * most_tunnels

-- no amount of the first n tunnels is over the largest, in as many parts as there can be
pub record AmountTable (n : ℕ) (amounts : List ℕ) : Type 0 where
  pub size : length amounts ≡ amounts_size
  pub within : (t k : ℕ) → t < n → k < block_rows → at amounts (number_at t k) ≤ most_amount * most_steps

-- the sets of the first n tunnels have none but the first so many links
pub record SetsWithin (links : ℕ) (vias : List ℕ) (n : ℕ) : Type 0 where
  pub each : (t : ℕ) → t < n → at vias t < 2 ^ links

-- ---- loads: two vectors for each link, those of protected tunnels, and of the others

abbrev pub load_at : ℕ → ℕ → ℕ → ℕ
load_at l part k = number_at (2 * l + part) k

abbrev pub loads_size : ℕ
loads_size = block_rows * (2 * most_links)

abbrev pub part_of : ℕ → ℕ
part_of class = cond (leb class 1) 0 1

-- the class of a tunnel's flow
abbrev pub class_of : Net → ℕ → ℕ
class_of N t = N.class (N.flow t)

unfoldable pub in_part : (ℕ → ℕ) → ℕ → ℕ → Bool
in_part class part t = eqb (part_of (class t)) part

-- no load is over that of n amounts
pub record LoadsWithin (links n : ℕ) (loads : List ℕ) : Type 0 where
  pub size : length loads ≡ loads_size
  pub most : (q l k : ℕ) → q < 2 → l < links → k < block_rows → at loads (load_at l q k) ≤ n * (most_amount * most_steps)

-- the loads of both parts after the first n tunnels, by their sets, their classes and their amounts
pub record Loads (links : ℕ) (via class : ℕ → ℕ) (n : ℕ) (amounts loads : List ℕ) : Type 0 where
  pub size : length loads ≡ loads_size
  pub each : (q l k : ℕ) → q < 2 → l < links → k < block_rows
      → at loads (load_at l q k) ≡ gathered via (in_part class q) (λ t. at amounts (number_at t k)) n l

-- ---- what is done to vectors

pub record Cleared (n : ℕ) (s s' : List ℕ) : Type 0 where
  pub size : length s' ≡ length s
  pub each : (i : ℕ) → i < block_rows * n → at s' i ≡ 0

-- vector i is there, and so is vector j, to which it is to be added, and the sums fit
pub record Addable (from : List ℕ) (i : ℕ) (to : List ℕ) (j : ℕ) : Type 0 where
  pub source : Vectors (i + 1) from
  pub target : Vectors (j + 1) to
  pub fits : (k : ℕ) → k < block_rows → at to (number_at j k) + at from (number_at i k) < 2 ^ 64

-- the numbers x are added to vector j
pub record VectorAdded (j : ℕ) (x : ℕ → ℕ) (s s' : List ℕ) : Type 0 where
  pub size : length s' ≡ length s
  pub each : (i k : ℕ) → k < block_rows → at s' (number_at i k) ≡ at s (number_at i k) + cond (eqb i j) (x k) 0

-- vector t can be added to that of each link of a set, which is so many times the link's number, and so many, on: there is room enough to add it twice
pub record AddableOn (links : ℕ) (amounts : List ℕ) (t via : ℕ) (to : List ℕ) (times on : ℕ) : Type 0 where
  pub few : (links ≤ most_links) × (on < times) × (times ≤ 2)
  pub links_of : via < 2 ^ links
  pub source : Vectors (t + 1) amounts
  pub target : Vectors (times * links) to
  pub fits : (l k : ℕ) → l < links → k < block_rows → at to (number_at (times * l + on) k) + 2 * at amounts (number_at t k) < 2 ^ 64

-- the numbers x l are added to the vector of each link l that c picks
pub record AddedOn (links : ℕ) (c : ℕ → Bool) (x : ℕ → ℕ → ℕ) (times on : ℕ) (s s' : List ℕ) : Type 0 where
  pub size : length s' ≡ length s
  pub here : (l k : ℕ) → l < links → k < block_rows → at s' (number_at (times * l + on) k) ≡ at s (number_at (times * l + on) k) + cond (c l) (x l k) 0
  pub others : (j k : ℕ) → k < block_rows → ((l : ℕ) → l < links → j ≢ times * l + on) → at s' (number_at j k) ≡ at s (number_at j k)
