-- `lists::Network::by_flow` meets its contract.
use mathlib.Core.Path.{refl}
use borrow.Author.Tests.{le-leb, lt-leb}
use Rattle.lists.specs.Lists.{at, network_of, network_sizes}
use Rattle.model.specs.Rule.{by_flow}
use Rattle.lists.proofs.Positions.{head-least}
use native.Mathlib.Omega.{arith}
use Rattle.lists.proofs.Network.by_flow.Goals as goal

pub bounds-list-0 : goal.bounds-list-0
bounds-list-0 c = omega (arith, c.requires, head-least (network_sizes c.args.list.now))

pub bounds-list-3 : goal.bounds-list-3
bounds-list-3 c = omega (arith, c.requires, head-least (network_sizes c.args.list.now))

pub returns-then-list-ge-HELD_SINCE : goal.returns-then-list-ge-HELD_SINCE
unfolding by_flow network_of
returns-then-list-ge-HELD_SINCE c = let e = le-leb 3 (at c.args.list.now 0) c.if-list-ge-HELD_SINCE.true in rw e refl

pub returns : goal.returns
unfolding by_flow network_of
returns c = let e = lt-leb 3 (at c.args.list.now 0) c.if-list-ge-HELD_SINCE.false in rw e refl
