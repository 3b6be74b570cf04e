-- `lists::Network::is_lag` meets its contract.
use native.Mathlib.Omega.{arith}
use borrow.Author.Tests.{le-leb, lt-leb}
use Rattle.lists.proofs.Network.is_lag.Goals as goal

pub returns-then-lag-ge1 : goal.returns-then-lag-ge1
returns-then-lag-ge1 c = rw (le-leb 1 c.args.lag (omega (arith, c.if-lag-ge1.true)))

pub returns-else-lag-ge1 : goal.returns-else-lag-ge1
returns-else-lag-ge1 c = rw (lt-leb 1 c.args.lag (omega (arith, c.if-lag-ge1.false)))
