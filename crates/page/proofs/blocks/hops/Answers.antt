-- `page::blocks::hops` meets its contract.
use mathlib.Core.Path.{ap, ◌∙◌}
use lib.Count.{ones}
use Rattle.page.specs.Page.{hops}
use Rattle.page.proofs.blocks.hops.Goals as goal

pub returns : goal.returns
unfolding hops
returns c = c.from.ensures ∙ ap ones c.via.ensures.value
