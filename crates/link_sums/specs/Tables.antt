-- The tables in which a network's three sums are gathered, and what the functions say of them.
use Rattle.std.specs.Prelude.{ℕ, ◌+◌, ◌*◌, ◌≤◌, ◌<◌, max, ◌≡◌, Bool, true, false, cond, not, List, eqb, length, get_or, Option, None, Some}
use Rattle.model.specs.Limits.{most_links, most_flows, most_tunnels, most_amount}
use Rattle.model.specs.Sum.{sum_over}
use Rattle.model.specs.Sets.{in_set}
use Rattle.model.specs.Net.{Net}
use Rattle.model.specs.Scan.{Bound}
use Rattle.model.specs.Rule.{across, flow_sum, movers, on_link, counts}
use Rattle.model.specs.ThreeSums.{old_load, new_load, peak_load}
use Rattle.link_sums.specs.declared.by_flow.Amounts.{Amounts}
use Rattle.link_sums.specs.declared.table.LinkSums.{LinkSums}
use Rattle.link_sums.specs.declared.table.Tables.{Tables}

-- the sums of a link: of the old amounts, the new ones, and the larger of the two
pub data Part : Type 0 where
  old new peak : Part

abbrev pub part : LinkSums → Part → ℕ
part s old = s.old
part s new = s.new
part s peak = s.peak

-- of no mover, of one of the amounts o and n, and of the movers of both
abbrev pub nothing : LinkSums
nothing = record { old = 0; new = 0; peak = 0 }

abbrev pub of_mover : ℕ → ℕ → LinkSums
of_mover o n = record { old = o; new = n; peak = max o n }

abbrev pub plus : LinkSums → LinkSums → LinkSums
plus s m = record { old = s.old + m.old; new = s.new + m.new; peak = s.peak + m.peak }

-- over the movers that a bound counts, on link l
abbrev pub sums_of : Net → Bound → ℕ → LinkSums
sums_of N b l = record { old = old_load N b l; new = new_load N b l; peak = peak_load N b l }

-- a table has them for each link that a network can have
abbrev pub sum_at : List LinkSums → Part → ℕ → ℕ
sum_at s p l = part (get_or s l nothing) p

-- what a mover of the amounts o and n adds to a part
abbrev pub amount : ℕ → ℕ → Part → ℕ
amount o n p = part (of_mover o n) p

-- the most amounts that a sum is of: no mover has more on a link than all tunnels, and there are no more movers than tunnels can be
abbrev pub most_sums : ℕ
most_sums = most_tunnels * most_tunnels

-- the sums of a link, of at most so many amounts
abbrev pub Few : LinkSums → Type 0
Few s = (p : Part) → part s p ≤ most_sums * most_amount

-- a table of sums of at most n amounts
pub record Room (n : ℕ) (s : List LinkSums) : Type 0 where
  pub size : length s ≡ most_links
  pub most : (p : Part) (l : ℕ) → l < most_links → sum_at s p l ≤ n * most_amount

-- the table s' is s with the amounts o and n added on the links that c picks
pub record Added (c : ℕ → Bool) (o n : ℕ) (s s' : List LinkSums) : Type 0 where
  pub size : length s' ≡ length s
  pub each : (p : Part) (l : ℕ) → l < most_links → sum_at s' p l ≡ sum_at s p l + cond (c l) (amount o n p) 0

-- what a part counts of mover m on link l
unfoldable pub on_part : Net → ℕ → Part → ℕ → ℕ
on_part N l old = on_link N l N.old
on_part N l new = on_link N l N.new
on_part N l peak = λ m. max (on_link N l N.old m) (on_link N l N.new m)

-- the table of those of the first n movers that c picks
pub record Table (N : Net) (n : ℕ) (c : ℕ → Bool) (s : List LinkSums) : Type 0 where
  pub size : length s ≡ most_links
  pub each : (p : Part) (l : ℕ) → l < most_links → sum_at s p l ≡ sum_over n c (on_part N l p)

-- the movers that are not protected
abbrev pub unprotected : Net → ℕ → Bool
unprotected N m = not (counts N Bound.protected m)

-- the table of all movers that a bound counts
abbrev pub Loads : Net → Bound → List LinkSums → Type 0
Loads N b s = Table N (movers N) (counts N b) s

-- of the first n movers, the table of the protected ones and that of the others
pub record Split (N : Net) (n : ℕ) (t : Tables) : Type 0 where
  pub protected : Table N n (counts N Bound.protected) t.protected
  pub others : Table N n (unprotected N) t.all

-- the table s' has the sums of the numbers of two others
pub record Joined (s more s' : List LinkSums) : Type 0 where
  pub size : length s' ≡ most_links
  pub each : (p : Part) (l : ℕ) → l < most_links → sum_at s' p l ≡ sum_at s p l + sum_at more p l

-- ---- the tunnels of a flow, chained

abbrev pub of_flow : Net → ℕ → ℕ → Bool
of_flow N f t = eqb (N.flow t) f

-- how many tunnels there are up to one, that one among them
abbrev pub up_to : Option ℕ → ℕ
up_to None = 0
up_to (Some t) = t + 1

-- the last of the first n tunnels that c picks, so those up to it have all that they have together; none where c picks none
pub record LastOf (c : ℕ → Bool) (n : ℕ) (m : Option ℕ) : Type 0 where
  pub low : up_to m ≤ n
  pub own : (t : ℕ) → m ≡ Some t → c t ≡ true
  pub whole : (x : ℕ → ℕ) → sum_over n c x ≡ sum_over (up_to m) c x

-- of the first n tunnels: the last of each flow, and the one of the same flow before each tunnel
pub record Chained (N : Net) (n : ℕ) (lasts priors : List (Option ℕ)) : Type 0 where
  pub size : (length lasts ≡ most_flows) × (length priors ≡ most_tunnels)
  pub last : (f : ℕ) → f < most_flows → LastOf (of_flow N f) n (get_or lasts f None)
  pub prior : (t : ℕ) → t < n → LastOf (of_flow N (N.flow t)) t (get_or priors t None)

-- ---- the sums of one flow: on each link that a network can have, of its old amounts and of its new ones

pub data Side : Type 0 where
  before after : Side

abbrev pub none : Amounts
none = record { old = 0; new = 0 }

abbrev pub of_side : {A : Type 0} → A → A → Side → A
of_side o n before = o
of_side o n after = n

abbrev pub side_at : List Amounts → Side → ℕ → ℕ
side_at s p l = of_side (get_or s l none).old (get_or s l none).new p

-- no sum is larger than all tunnels' amounts together
pub record FlowRoom (s : List Amounts) : Type 0 where
  pub size : length s ≡ most_links
  pub most : (p : Side) (l : ℕ) → l < most_links → side_at s p l ≤ most_tunnels * most_amount

-- the sums s' are s with the amounts o and n added on the links that c picks
pub record FlowAdded (c : ℕ → Bool) (o n : ℕ) (s s' : List Amounts) : Type 0 where
  pub size : length s' ≡ length s
  pub each : (p : Side) (l : ℕ) → l < most_links → side_at s' p l ≡ side_at s p l + cond (c l) (of_side o n p) 0

-- the sums of the amounts of flow f's tunnels
pub record FlowSums (N : Net) (f : ℕ) (s : List Amounts) : Type 0 where
  pub size : length s ≡ most_links
  pub each : (p : Side) (l : ℕ) → l < most_links → side_at s p l ≡ flow_sum N (across N l (of_side N.old N.new p)) f

-- there are none but on the links of a set
pub record NoneOutside (set : ℕ) (s : List Amounts) : Type 0 where
  pub each : (p : Side) (l : ℕ) → l < most_links → in_set set l ≡ false → side_at s p l ≡ 0

-- the table s' is s with a flow's sums added, as one amount before and one after, on the links that c picks
pub record SumsAdded (c : ℕ → Bool) (sums : List Amounts) (s s' : List LinkSums) : Type 0 where
  pub size : length s' ≡ length s
  pub each : (p : Part) (l : ℕ) → l < most_links → sum_at s' p l ≡ sum_at s p l + cond (c l) (amount (side_at sums before l) (side_at sums after l) p) 0

-- the table s' is s with flow f added
pub record WithFlow (N : Net) (f : ℕ) (s s' : List LinkSums) : Type 0 where
  pub size : length s' ≡ length s
  pub each : (p : Part) (l : ℕ) → l < most_links → sum_at s' p l ≡ sum_at s p l + on_part N l p f
