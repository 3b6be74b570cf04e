-- What is claimed of every network and every plan, over every step, link and choice.
use Rattle.std.specs.Prelude.{ℕ, ◌≤◌, ◌<◌, ◌≡◌, ◌⊎◌, true, false}
use Rattle.std.proofs.Math.Option.{none, some}
use Rattle.model.specs.Limits.{most_steps, least_share, most_share}
use Rattle.model.specs.Net.{Net, Plan}
use Rattle.model.specs.Scan.{Bound, Overload}
use Rattle.model.specs.Rule.{Choice, overloads, step_count, missed_rate, first_overload, accepted, marked}
use Rattle.model.specs.Even.{even, keeps_scratch, fewest, lag_bound}

-- what a network's own lines say of its figures
pub record Valid (N : Net) : Type 0 where
  pub scratch : (least_share ≤ N.scratch) × (N.scratch ≤ most_share)
  pub overrun : (N.overrun ≡ 0) ⊎ ((least_share ≤ N.overrun) × (N.overrun ≤ most_share))
  pub sums : missed_rate N ≡ none

-- at every lag of w
pub record Claim : Type 0 where
  -- where no overload is found, "no choice in any step overloads a link"
  pub safe : (w : ℕ) (N : Net) (P : Plan) → first_overload w N P ≡ none
      → (i l : ℕ) → i < step_count w N P → l < N.links → (c : Choice w N P i) (b : Bound) → overloads w N P i l c b ≡ false
  -- an overload found names a step and a link of theirs, and the marked choice "breaks that number's bound on the named link"
  pub shown : (w : ℕ) (N : Net) (P : Plan) (o : Overload) → first_overload w N P ≡ some o
      → (o.from < step_count w N P) × (o.link < N.links) × (overloads w N P o.from o.link (marked w N P o) o.bound ≡ true)
  -- "a plan that some choice overloads always meets 7 or 8"
  pub found : (w : ℕ) (N : Net) (P : Plan) (i l : ℕ) → i < step_count w N P → l < N.links
      → (c : Choice w N P i) (b : Bound) → overloads w N P i l c b ≡ true → (o : Overload) × (first_overload w N P ≡ some o)
  -- a network that keeps its scratch has an even plan that is accepted, and "needs at most" the bound's steps, "wherever this is 50 or less"
  pub bounded : (w : ℕ) (N : Net) → 1 ≤ w → Valid N → keeps_scratch N ≡ true → lag_bound w N.scratch N.overrun ≤ most_steps
      → (q : ℕ) × (fewest w N ≡ some q) × (accepted w N (even N q) ≡ true) × (q ≤ lag_bound w N.scratch N.overrun)
