-- `product::write_network` meets its contract: the answer is made of the result.
use mathlib.Core.Path.{ap, ◌∙◌}
use Rattle.lists.specs.Refusals.{done_with}
use Rattle.lists.proofs.Refusals.{done-same}
use Rattle.product.proofs.write_network.Goals as goal

pub returns-clause-value : goal.returns-clause-value
returns-clause-value c = c.done.ensures ∙ ap done_with c.write_network.ensures.value ∙ done-same _
