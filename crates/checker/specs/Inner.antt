-- What the parts of the checker come to. No promise of the product cites these.
use Rattle.std.specs.Prelude.{ℕ, ◌+◌, ◌≤◌, ◌<◌, max, ◌≡◌, length, get_or, Bool, true, false, cond, List, Option, Some, None, Result, Ok, Err}
use Rattle.std.proofs.Math.Option as math
use Rattle.model.specs.Outcome.{Outcome, good, refused, Place}
use Rattle.model.specs.Limits.{most_flows, most_steps, most_lag}
use Rattle.model.specs.Largest.{largest}
use Rattle.model.specs.Net.{Net, Plan, row}
use Rattle.model.specs.Scan.{Bound}
use Rattle.model.specs.Rule.{across, flow_sum, between, step_count, mark}
use Rattle.model.specs.Listed.{listed}
use Rattle.lists.specs.Lists.{network_sizes, network_of, plan_sizes, plan_of}
use Rattle.amounts.specs.Lists.{Lists}
use Rattle.amounts.specs.Rows.{Checkable}
use Rattle.lists.specs.Refusals.{refusal}
use Rattle.lists.specs.declared.refusal.Refusal.{Refusal}
use Rattle.checker.specs.declared.sums.Missed.{Missed}

-- the first flow whose sum does not lie between parts × the lesser and parts × the greater, of the network's flows
abbrev pub Between : Net → ℕ → List ℕ → ℕ → Type 0
Between N parts sums n = (f : ℕ) → f < n → between N parts f (get_or sums f 0) ≡ true

abbrev pub FirstMissed : Net → ℕ → List ℕ → Option ℕ → Type 0
FirstMissed N parts sums None = Between N parts sums N.flows
FirstMissed N parts sums (Some f) = (f < N.flows) × Between N parts sums f × (between N parts f (get_or sums f 0) ≡ false)

abbrev pub missed_of : math.Option Place → Option Missed
missed_of math.none = None
missed_of (math.some p) = Some (record { row = p.place; flow = p.second })

-- a byte for each of n tunnels: 1 for those with m, else 0
abbrev pub marks_of : (ℕ → Bool) → ℕ → List ℕ
marks_of m n = listed n (λ t. cond (m t) 1 0)

-- the marks of the window from row i, on link l
abbrev pub marks_at : ℕ → Net → Plan → ℕ → ℕ → ℕ → List ℕ
marks_at w N P i l n = marks_of (mark w N P (record { bound = Bound.protected; from = i; link = l })) n

-- the window and the link are there
pub record InPlan (w : ℕ) (n p : List ℕ) (i l : ℕ) : Type 0 where
  pub steps : (plan_sizes p).steps ≤ most_steps
  pub lag : w ≤ most_lag
  pub step : i < step_count w (network_of n) (plan_of p)
  pub link : l < (network_sizes n).links

-- the marks can be made: the window and the link are there, and there is room
pub record Markable (w : ℕ) (n p : List ℕ) (i l : ℕ) (marks : List ℕ) : Type 0 where
  pub pair : Checkable n p
  pub lag : w ≤ most_lag
  pub step : i < step_count w (network_of n) (plan_of p)
  pub link : l < (network_sizes n).links
  pub room : (network_sizes n).tunnels ≤ length marks

-- each sum is the larger of two
pub record Raised (sums s s' : List ℕ) : Type 0 where
  pub size : length s' ≡ length s
  pub each : (f : ℕ) → f < most_flows → get_or s' f 0 ≡ max (get_or s f 0) (get_or sums f 0)

-- the largest sum of each flow on link l in row i and k rows after it
pub record LargestSums (N : Net) (P : Plan) (i l k : ℕ) (s : List ℕ) : Type 0 where
  pub size : length s ≡ most_flows
  pub each : (f : ℕ) → f < most_flows → get_or s f 0 ≡ largest k (λ a. flow_sum N (across N l (row N P (i + a))) f)

-- a network and the plan that is judged with it, or the refusal
abbrev pub paired : List ℕ → Outcome (List ℕ) → Result Lists Refusal
paired n (good p) = Ok (record { network = n; plan = p })
paired n (refused c place second) = Err (refusal c place second)
