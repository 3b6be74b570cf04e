-- `lists::Network::per_flow` meets its contract.
use Rattle.lists.specs.Lists.{per_flow}
use mathlib.Core.Path.{sym, ◌∙◌}
use Rattle.lists.proofs.Network.per_flow.Goals as goal

pub returns-then-has_next : goal.returns-then-has_next
unfolding per_flow
returns-then-has_next c = let e = sym c.has_next.ensures ∙ c.if-has_next.true in rw e

pub returns-else-has_next : goal.returns-else-has_next
unfolding per_flow
returns-else-has_next c = let e = sym c.has_next.ensures ∙ c.if-has_next.false in rw e
