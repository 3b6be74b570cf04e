-- `judges::ranges::is_rules` meets its contract.
use mathlib.Core.Path.{sym, ◌∙◌}
use native.Mathlib.Omega.{arith}
use Rattle.judges.proofs.InRange.{decides-no}
use Rattle.judges.proofs.RulesInRange.{whole-tables}
use Rattle.judges.proofs.ranges.is_rules.Goals as goal
use Rattle.judges.proofs.ranges.is_rules.Goals.{then-list-ge-HEAD, else-list-ge-HEAD}

pub returns-else-head_in : goal.returns-else-head_in
returns-else-head_in c = rw c.if-head_in.false (decides-no (λ w. elim c.if-list-ge-HEAD.branch [
  | then-list-ge-HEAD v ↦ v.head_in.ensures.no (sym v.value-is ∙ c.if-head_in.false) (whole-tables _ w).head
  | else-list-ge-HEAD v ↦ absurd (omega (arith, v.if-list-ge-HEAD.false, (whole-tables _ w).size))
]))
