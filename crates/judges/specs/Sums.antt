-- The sums that the code gathers in one pass over the tunnels.
use Rattle.std.specs.Prelude.{ℕ, ◌+◌, ◌*◌, ◌<◌, ◌^◌, ◌≡◌, List, eqb, length, get_or, Option, Some, None}
use Rattle.std.proofs.Math.Option as math
use Rattle.model.specs.Limits.{most_flows}
use Rattle.model.specs.Sum.{sum_over}
use Rattle.model.specs.Net.{Net}
use Rattle.model.specs.Outcome.{Place}
use Rattle.judges.specs.declared.sums.MissedSum.{MissedSum}

-- a sum for each flow that a network can have: its amounts x, as far as the first n tunnels go
pub record Gathered (N : Net) (x : ℕ → ℕ) (n : ℕ) (s : List ℕ) : Type 0 where
  pub size : length s ≡ most_flows
  pub sums : (f : ℕ) → f < most_flows → get_or s f 0 ≡ sum_over n (λ t. eqb (N.flow t) f) x

-- a tunnel's two amounts as one number: the old one and, times 2 ^ 32, the new one. All amounts of either kind that a network can have add up
-- to less than 2 ^ 32, so that the sum of these numbers is the two sums side by side.
unfoldable pub pair_of : Net → ℕ → ℕ
pair_of N t = N.old t + N.new t * 2 ^ 32

-- a place as the code has it
abbrev pub missed_of : math.Option Place → Option MissedSum
missed_of math.none = None
missed_of (math.some p) = Some (record { flow = p.place; second = p.second })
