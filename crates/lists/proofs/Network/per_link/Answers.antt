-- `lists::Network::per_link` meets its contract.
use mathlib.Core.Path.{sym, ◌∙◌}
use Rattle.lists.proofs.Positions.{two-a-link, one-a-link}
use Rattle.lists.proofs.Network.per_link.Goals as goal

pub returns-then-has_held : goal.returns-then-has_held
returns-then-has_held c = sym (two-a-link c.args.self.edition (sym c.has_held.ensures ∙ c.if-has_held.true))

pub returns-else-has_held : goal.returns-else-has_held
returns-else-has_held c = sym (one-a-link c.args.self.edition (sym c.has_held.ensures ∙ c.if-has_held.false))
