-- `product::make_plan` meets its contract: the answer is made of the result.
use mathlib.Core.Path.{ap, ◌∙◌}
use Rattle.lists.specs.Refusals.{plan_with}
use Rattle.lists.proofs.Refusals.{plan-same}
use Rattle.product.proofs.make_plan.Goals as goal

pub returns-clause-value : goal.returns-clause-value
returns-clause-value c = c.plan.ensures ∙ ap plan_with c.make_plan.ensures.value ∙ plan-same _
