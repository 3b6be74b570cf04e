-- `checker::marks::on_link` meets its contract.
use mathlib.Core.Path.{sym, ◌∙◌}
use Rattle.checker.proofs.marks.on_link.Goals as goal

pub returns-then-crosses : goal.returns-then-crosses
returns-then-crosses c = simp (sym c.crosses.ensures ∙ c.if-crosses.true)

pub returns-else-crosses : goal.returns-else-crosses
returns-else-crosses c = simp (sym c.crosses.ensures ∙ c.if-crosses.false)
