-- `product::check_plan` meets its contract: the answer is made of the result.
use mathlib.Core.Path.{ap, ◌∙◌}
use Rattle.lists.specs.Refusals.{done_with}
use Rattle.checker.proofs.Checking.{checked-same}
use Rattle.product.proofs.check_plan.Goals as goal

pub returns-clause-value : goal.returns-clause-value
returns-clause-value c = c.done.ensures ∙ ap done_with c.check_plan.ensures.value ∙ checked-same _ _
