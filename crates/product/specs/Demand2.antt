-- Demand 2, of plans: "A plan is accepted exactly when its rows add up and every step meets the worst-load rule on every link. The planner returns the even plan of
-- fewest steps, and says there is none exactly if no even plan of 1 to 50 steps is accepted." Accepted is what the checker answers at a lag of w; `room` is the room for its marks.
use Rattle.std.specs.Prelude.{ℕ, ◌≤◌, ◌<◌, ◌≡◌, ◌↔◌, true, List, length}
use Rattle.model.specs.Limits.{most_steps}
use Rattle.model.specs.Outcome.{good, number, is_lag}
use Rattle.model.specs.declared.Cause.TheVariants.{NoEvenPlan as no_even_plan}
use Rattle.model.specs.Scan.{Bound, cause}
use Rattle.model.specs.Rule.{accepted}
use Rattle.model.specs.Even.{even}
use Rattle.lists.specs.Lists.{network_of}
use Rattle.lists.specs.Answers.{with_room, plan}
use Rattle.lists.specs.declared.Answer.TheVariants.{Done, Refused}
use Rattle.forms.specs.Read.{judge_list}
use Rattle.forms.specs.declared.form.Form.TheVariants as forms
use Rattle.planner.specs.Planned.{even_list, planned}
use Rattle.checker.specs.Check.{verdict, checked}
use Rattle.checker.specs.Claim.{Reaches, MeetsRule}
use Rattle.product.specs.Demand3.{Returns}

-- the checker accepts the list p for the network of the list n
abbrev pub Accepts : ℕ → List ℕ → List ℕ → ℕ → Type 0
Accepts w n p room = checked n (verdict w n p room) ≡ Done (network_of n).tunnels

-- and it accepts none of the even plans of some numbers of steps
abbrev pub NoneAccepted : ℕ → List ℕ → ℕ → (ℕ → Type 0) → Type 0
NoneAccepted w n room steps = (q : ℕ) → 1 ≤ q → steps q → Accepts w n (even_list (network_of n) q) room → ⊥

pub record Demand2 : Type 0 where
  -- "A plan is accepted exactly when its rows add up and every step meets the worst-load rule on every link"
  pub accepts : (w : ℕ) (n p : List ℕ) (room : ℕ) → Accepts w n p room ↔ (Reaches w n p room × MeetsRule w n p)
  -- of the list of an even plan the checker says what the rule says of the even plan
  pub even_accepted : (w : ℕ) (n : List ℕ) (q room : ℕ) → is_lag w ≡ true → judge_list forms.Network n ≡ good n → (network_of n).tunnels ≤ room → 1 ≤ q → q ≤ most_steps
      → Accepts w n (even_list (network_of n) q) room ↔ (accepted w (network_of n) (even (network_of n) q) ≡ true)
  -- "The planner returns the even plan of fewest steps"
  pub fewest : (w : ℕ) (n p out : List ℕ) (room : ℕ) → Returns w n p out → (network_of n).tunnels ≤ room
      → (q : ℕ) × (1 ≤ q) × (q ≤ most_steps) × (p ≡ even_list (network_of n) q) × Accepts w n p room × NoneAccepted w n room (λ r. r < q)
  -- "and says there is none exactly if no even plan of 1 to 50 steps is accepted": then 9 names the place that the checker names in the plan of 50 steps
  pub nine : (w : ℕ) (n out : List ℕ) (room : ℕ) → is_lag w ≡ true → judge_list forms.Network n ≡ good n → (network_of n).tunnels ≤ room → NoneAccepted w n room (λ q. q ≤ most_steps)
      → (a : ℕ) × (l : ℕ) × (b : Bound) × (plan (with_room (length out) (planned w n)) ≡ Refused (number no_even_plan) a l)
      × (checked n (verdict w n (even_list (network_of n) most_steps) room) ≡ Refused (number (cause b)) a l)
  -- and only then
  pub nine_only : (w : ℕ) (n out : List ℕ) (room a l : ℕ) → plan (with_room (length out) (planned w n)) ≡ Refused (number no_even_plan) a l → (network_of n).tunnels ≤ room
      → (judge_list forms.Network n ≡ good n) × NoneAccepted w n room (λ q. q ≤ most_steps)
