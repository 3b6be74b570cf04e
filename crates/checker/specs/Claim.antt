-- What is claimed of the checker's outcome, for every lag, all lists and any room for the marks.
use Rattle.std.specs.Prelude.{ℕ, ◌≤◌, ◌<◌, ◌≡◌, ◌↔◌, true, false, List}
use Rattle.std.proofs.Math.Option.{none, some}
use Rattle.model.specs.Outcome.{good, is_lag}
use Rattle.model.specs.Scan.{Bound, Overload}
use Rattle.model.specs.Rule.{Choice, overloads, worst_over, step_count, missed_row, marked}
use Rattle.lists.specs.Lists.{network_of, plan_sizes, plan_of}
use Rattle.checker.specs.Check.{verdict}
use Rattle.forms.specs.Named.{judge_network, judge_plan}

-- "With valid texts or lists, equal `tunnels`, rows that add up and room for the marks", and "a lag w of 1 to 4"
pub record Reaches (w : ℕ) (n p : List ℕ) (lent : ℕ) : Type 0 where
  pub lag : is_lag w ≡ true
  pub network : judge_network n ≡ good n
  pub plan : judge_plan p ≡ good p
  pub tunnels : (plan_sizes p).tunnels ≡ (network_of n).tunnels
  pub rows : missed_row (network_of n) (plan_of p) ≡ none
  pub room : (network_of n).tunnels ≤ lent

-- "every step meets the worst-load rule on every link"
abbrev pub MeetsRule : ℕ → List ℕ → List ℕ → Type 0
MeetsRule w n p =
    (i l : ℕ) → i < step_count w (network_of n) (plan_of p) → l < (network_of n).links → (b : Bound) → worst_over w (network_of n) (plan_of p) i l b ≡ false

pub record Checker : Type 0 where
  -- done exactly when all of this holds
  pub done : (w : ℕ) (n p : List ℕ) (room : ℕ) → (verdict w n p room ≡ good none) ↔ (Reaches w n p room × MeetsRule w n p)
  -- "the checker answers done": "no choice in any step overloads a link"
  pub safe : (w : ℕ) (n p : List ℕ) (room : ℕ) → verdict w n p room ≡ good none
      → (i l : ℕ) → i < step_count w (network_of n) (plan_of p) → l < (network_of n).links
      → (c : Choice w (network_of n) (plan_of p) i) (b : Bound) → overloads w (network_of n) (plan_of p) i l c b ≡ false
  -- "After 7 or 8": the marked choice "breaks that number's bound on the named link"
  pub shown : (w : ℕ) (n p : List ℕ) (room : ℕ) (o : Overload) → verdict w n p room ≡ good (some o)
      → (o.from < step_count w (network_of n) (plan_of p)) × (o.link < (network_of n).links)
      × (overloads w (network_of n) (plan_of p) o.from o.link (marked w (network_of n) (plan_of p) o) o.bound ≡ true)
  -- "a plan that some choice overloads always meets 7 or 8 from the checker"
  pub found : (w : ℕ) (n p : List ℕ) (room : ℕ) → Reaches w n p room
      → (i l : ℕ) → i < step_count w (network_of n) (plan_of p) → l < (network_of n).links
      → (c : Choice w (network_of n) (plan_of p) i) (b : Bound) → overloads w (network_of n) (plan_of p) i l c b ≡ true
      → (o : Overload) × (verdict w n p room ≡ good (some o))
