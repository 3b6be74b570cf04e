-- Demand 3: "one claim, over every network and every plan, given as lists or as texts that the readers take, and over every step, link and choice", at every lag of w.
-- Step a of the paper leads from row a - 1; `length marks` is the room for the marks.
use Rattle.std.specs.Prelude.{ℕ, ◌-◌, ◌≤◌, ◌<◌, ◌≡◌, true, false, List, ◌++◌, eqb, length, get_or, drop}
use Rattle.std.proofs.Math.Option.{none}
use Rattle.model.specs.Limits.{most_steps}
use Rattle.model.specs.Outcome.{good, number, is_lag}
use Rattle.model.specs.Scan.{Bound, cause}
use Rattle.model.specs.Rule.{Choice, overloads, missed_row, step_count, at_largest}
use Rattle.model.specs.Even.{keeps_scratch, ceil_div, step_bound, lag_bound}
use Rattle.lists.specs.Lists.{network_of, plan_sizes, plan_of}
use Rattle.lists.specs.Answers.{with_room, plan, lent}
use Rattle.lists.specs.declared.Answer.TheVariants.{Done, Plan, Refused}
use Rattle.forms.specs.Read.{read_text, judge_list}
use Rattle.forms.specs.declared.form.Form.{Form}
use Rattle.forms.specs.declared.form.Form.TheVariants as forms
use Rattle.planner.specs.Planned.{planned}
use Rattle.checker.specs.Check.{verdict, checked, marks_after}

-- "given as lists or as texts that the readers take": the list is a valid network, or a valid plan
pub data Valid (form : Form) (l : List ℕ) : Type 0 where
  as-list : judge_list form l ≡ good l → Valid form l
  as-text : (text : List ℕ) → read_text form text ≡ good l → Valid form l

-- "no choice in any step overloads a link"
abbrev pub NoOverload : ℕ → List ℕ → List ℕ → Type 0
NoOverload w n p =
    (i l : ℕ) → i < step_count w (network_of n) (plan_of p) → l < (network_of n).links
    → (c : Choice w (network_of n) (plan_of p) i) (b : Bound) → overloads w (network_of n) (plan_of p) i l c b ≡ false

-- "the marked ones overload the named link at their largest, the rest at row a": the choice in the step from row i in which the tunnels that have the mark 1, with `unit=1` their flows,
-- show a row of the window where they put the most on link l, by the bytes of the marks
abbrev pub by_marks : (w : ℕ) (n p : List ℕ) (i l : ℕ) → List ℕ → Choice w (network_of n) (plan_of p) i
by_marks w n p i l marks = at_largest w (network_of n) (plan_of p) i l (λ t. eqb (get_or marks t 0) 1)

-- the planner, given the room, returns the plan p: the answer is a plan, and p stands at the front of the output
abbrev pub Returns : ℕ → List ℕ → List ℕ → List ℕ → Type 0
Returns w n p out = (plan (with_room (length out) (planned w n)) ≡ Plan (length p)) × (lent (with_room (length out) (planned w n)) out ≡ p ++ drop (length p) out)

pub record Demand3 : Type 0 where
  -- "If the planner returns a plan, .. no choice in any step overloads a link."
  pub planner : (w : ℕ) (n out p : List ℕ) → Returns w n p out → NoOverload w n p
  -- "If .. the checker answers done, no choice in any step overloads a link."
  pub checker : (w : ℕ) (n p marks : List ℕ) (k : ℕ) → checked n (verdict w n p (length marks)) ≡ Done k → NoOverload w n p
  -- "After 7 or 8 from the checker, take the choice in the named step in which the marked tunnels show the later row and all others the earlier:
  -- it breaks that number's bound on the named link." With a lag, "the marked ones overload the named link at their largest, the rest at row a".
  pub marked : (w : ℕ) (n p marks : List ℕ) (b : Bound) (a l : ℕ) → checked n (verdict w n p (length marks)) ≡ Refused (number (cause b)) a l
      → (1 ≤ a) × (a - 1 < step_count w (network_of n) (plan_of p)) × (l < (network_of n).links)
      × (overloads w (network_of n) (plan_of p) (a - 1) l (by_marks w n p (a - 1) l (marks_after w n p (verdict w n p (length marks)) marks)) b ≡ true)
  -- "With valid texts or lists, equal `tunnels`, rows that add up and room for the marks, a plan that some choice overloads always meets 7 or 8
  -- from the checker."
  pub found : (w : ℕ) (n p marks : List ℕ) → is_lag w ≡ true → Valid forms.Network n → Valid forms.Plan p → (plan_sizes p).tunnels ≡ (network_of n).tunnels → missed_row (network_of n) (plan_of p) ≡ none
      → (network_of n).tunnels ≤ length marks
      → (i l : ℕ) → i < step_count w (network_of n) (plan_of p) → l < (network_of n).links
      → (c : Choice w (network_of n) (plan_of p) i) (b : Bound) → overloads w (network_of n) (plan_of p) i l c b ≡ true
      → (d : Bound) × (a : ℕ) × (k : ℕ) × (checked n (verdict w n p (length marks)) ≡ Refused (number (cause d)) a k)
  -- "In place of demand 3's last part, a network that keeps its scratch needs at most ceil(w × (1000 - scratch)/scratch) steps, or, with overrun,
  -- ceil(1000 × w/overrun) if larger, wherever this is 50 or less": for these the planner, given the room, returns a plan, and its steps are the number on that plan's
  -- `steps` line
  pub bounded_lag : (w : ℕ) (n : List ℕ) → is_lag w ≡ true → Valid forms.Network n → keeps_scratch (network_of n) ≡ true
      → lag_bound w (network_of n).scratch (network_of n).overrun ≤ most_steps
      → (p : List ℕ) × ((plan_of p).steps ≤ lag_bound w (network_of n).scratch (network_of n).overrun) × ((out : List ℕ) → length p ≤ length out → Returns w n p out)
  -- the case w = 1: "networks that keep their scratch with overrun 0: for these the planner, given the room, returns a plan, and its steps are the number on that
  -- plan's `steps` line": at most ceil(1000/scratch) - 1
  pub bounded : (n : List ℕ) → Valid forms.Network n → keeps_scratch (network_of n) ≡ true → (network_of n).overrun ≡ 0
      → (p : List ℕ) × ((plan_of p).steps ≤ ceil_div 1000 (network_of n).scratch - 1) × ((out : List ℕ) → length p ≤ length out → Returns 1 n p out)
  -- and with an overrun at most the larger of that and ceil(1000/overrun)
  pub bounded_overrun : (n : List ℕ) → Valid forms.Network n → keeps_scratch (network_of n) ≡ true
      → (p : List ℕ) × ((plan_of p).steps ≤ step_bound (network_of n).scratch (network_of n).overrun) × ((out : List ℕ) → length p ≤ length out → Returns 1 n p out)
