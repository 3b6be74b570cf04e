-- `lists::Network::head` meets its contract.
use mathlib.Core.Path.{sym}
use Rattle.lists.proofs.Positions.{with-unit, without-unit}
use borrow.Author.Tests.{le-leb, lt-leb}
use Rattle.lists.proofs.Network.head.Goals as goal

pub returns-then-edition-ge-HELD_SINCE : goal.returns-then-edition-ge-HELD_SINCE
returns-then-edition-ge-HELD_SINCE c = sym (with-unit c.args.edition (le-leb 3 c.args.edition c.if-edition-ge-HELD_SINCE.true))

pub returns-else-edition-ge-HELD_SINCE : goal.returns-else-edition-ge-HELD_SINCE
returns-else-edition-ge-HELD_SINCE c = sym (without-unit c.args.edition (lt-leb 3 c.args.edition c.if-edition-ge-HELD_SINCE.false))
