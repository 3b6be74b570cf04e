-- What is claimed of the planner's outcome, for every list and every number that is given as the lag.
use Rattle.std.specs.Prelude.{ℕ, ◌≤◌, ◌<◌, ◌≡◌, true, false, List, length}
use Rattle.std.proofs.Math.Option.{none, some}
use Rattle.model.specs.Limits.{most_steps}
use Rattle.model.specs.Outcome.{good, refused, is_lag}
use Rattle.model.specs.declared.Cause.TheVariants.{NoEvenPlan as no_even_plan, LagOutside as lag_outside}
use Rattle.model.specs.Net.{Net}
use Rattle.model.specs.Scan.{Bound, Overload, step}
use Rattle.model.specs.Rule.{Choice, overloads, step_count, missed_row, first_overload, accepted}
use Rattle.model.specs.Even.{even, keeps_scratch, lag_bound}
use Rattle.lists.specs.Answers.{with_room}
use Rattle.lists.specs.Lists.{network_of, plan_sizes, plan_of}
use Rattle.planner.specs.Planned.{even_list, planned}
use Rattle.forms.specs.Named.{judge_network, judge_plan}

-- at a lag of w, no even plan of fewer than q steps is accepted
abbrev pub NoneBelow : ℕ → Net → ℕ → Type 0
NoneBelow w N q = (r : ℕ) → 1 ≤ r → r < q → accepted w N (even N r) ≡ false

-- p is the list of the even plan of fewest steps at a lag of w
pub record FewestSteps (w : ℕ) (N : Net) (p : List ℕ) : Type 0 where
  pub steps : ℕ
  pub least : 1 ≤ steps
  pub most : steps ≤ most_steps
  pub list : p ≡ even_list N steps
  pub accepted : accepted w N (even N steps) ≡ true
  pub none_below : NoneBelow w N steps

-- at a lag of w, the list p is a plan for the network of the list l: all that the checker asks of it, and what it keeps safe
pub record Safe (w : ℕ) (l p : List ℕ) : Type 0 where
  pub network : judge_network l ≡ good l
  pub judged : judge_plan p ≡ good p
  pub tunnels : (plan_sizes p).tunnels ≡ (network_of l).tunnels
  -- "In each listed row a flow's sum lies between parts × the lesser and parts × the greater" of its rate and its next
  pub rows : missed_row (network_of l) (plan_of p) ≡ none
  pub overload : first_overload w (network_of l) (plan_of p) ≡ none
  -- "no choice in any step overloads a link"
  pub choices : (i k : ℕ) → i < step_count w (network_of l) (plan_of p) → k < (network_of l).links
      → (c : Choice w (network_of l) (plan_of p) i) (b : Bound) → overloads w (network_of l) (plan_of p) i k c b ≡ false

pub record Claim : Type 0 where
  -- "lag outside 1..4, tested before all else; place the lag, second 0"
  pub outside : (w : ℕ) (l : List ℕ) → is_lag w ≡ false → planned w l ≡ refused lag_outside w 0
  -- "If the planner returns a plan .. no choice in any step overloads a link"
  pub safe : (w : ℕ) (l p : List ℕ) → planned w l ≡ good p → Safe w l p
  -- it is the even plan of fewest steps
  pub fewest : (w : ℕ) (l p : List ℕ) → planned w l ≡ good p → FewestSteps w (network_of l) p
  -- "no even plan of 1 to 50 steps is accepted | 9 | where the 50-step plan first overloads: step; link": it is refused then
  pub nine : (w : ℕ) (l : List ℕ) → is_lag w ≡ true → judge_network l ≡ good l
      → ((q : ℕ) → 1 ≤ q → q ≤ most_steps → accepted w (network_of l) (even (network_of l) q) ≡ false)
      → (o : Overload) × (first_overload w (network_of l) (even (network_of l) most_steps) ≡ some o) × (planned w l ≡ refused no_even_plan (step o) o.link)
  -- and only then
  pub nine_only : (w : ℕ) (l : List ℕ) (place second : ℕ) → planned w l ≡ refused no_even_plan place second
      → (judge_network l ≡ good l) × ((q : ℕ) → 1 ≤ q → q ≤ most_steps → accepted w (network_of l) (even (network_of l) q) ≡ false)
  -- a network that keeps its scratch: "for these the planner, given the room, returns a plan, and its steps are the number on that plan's `steps` line",
  -- "at most ceil(w × (1000 - scratch)/scratch) steps, or, with overrun, ceil(1000 × w/overrun) if larger, wherever this is 50 or less"
  pub bounded : (w : ℕ) (l : List ℕ) → is_lag w ≡ true → judge_network l ≡ good l → keeps_scratch (network_of l) ≡ true
      → lag_bound w (network_of l).scratch (network_of l).overrun ≤ most_steps
      → (p : List ℕ) × (planned w l ≡ good p) × ((room : ℕ) → length p ≤ room → with_room room (planned w l) ≡ good p)
      × ((plan_of p).steps ≤ lag_bound w (network_of l).scratch (network_of l).overrun)
