-- `lists::Network::of` meets its contract.
use Prim.Native.Nat.{◌≤◌}
use Rattle.lists.specs.Lists.{at, network_sizes}
use lib.ListN.{length}
use Rattle.lists.proofs.Positions.{head-size, head-least, head-low, head-high}
use native.Mathlib.Omega.{arith}
use Rattle.lists.proofs.Network.of.Goals as goal
use Rattle.lists.proofs.Network.of.Goals.{After-head-head}

module _ (c : After-head-head) where
  low : 6 ≤ c.head-head.result
  low = omega (arith, c.head-head.ensures, head-low (at c.args.list.now 0))

  high : c.head-head.result ≤ 7
  high = omega (arith, c.head-head.ensures, head-high (at c.args.list.now 0))

  within : c.head-head.result ≤ length c.args.list.now
  unfolding network_sizes
  within = omega (arith, c.head-head.ensures, c.requires, head-size (network_sizes c.args.list.now))

pub bounds-list-0 : goal.bounds-list-0
bounds-list-0 c = omega (arith, c.requires, head-least (network_sizes c.args.list.now))

pub overflow_sub-result : goal.overflow_sub-result
overflow_sub-result c = omega (arith, low c)

pub offset_bounds-list-head : goal.offset_bounds-list-head
offset_bounds-list-head c = omega (arith, high c)

pub bounds-list-head : goal.bounds-list-head
bounds-list-head c = omega (arith, low ((goal.at.bounds-list-head c).After-head-head), within ((goal.at.bounds-list-head c).After-head-head))

pub overflow_sub-result-2 : goal.overflow_sub-result-2
overflow_sub-result-2 c = omega (arith, low ((goal.at.overflow_sub-result-2 c).After-head-head))

pub offset_bounds-list-head-2 : goal.offset_bounds-list-head-2
offset_bounds-list-head-2 c = omega (arith, high ((goal.at.offset_bounds-list-head-2 c).After-head-head))

pub bounds-list-head-2 : goal.bounds-list-head-2
bounds-list-head-2 c = omega (arith, low ((goal.at.bounds-list-head-2 c).After-head-head), within ((goal.at.bounds-list-head-2 c).After-head-head))

pub overflow_sub-result-3 : goal.overflow_sub-result-3
overflow_sub-result-3 c = omega (arith, low ((goal.at.overflow_sub-result-3 c).After-head-head))

pub offset_bounds-list-head-3 : goal.offset_bounds-list-head-3
offset_bounds-list-head-3 c = omega (arith, high ((goal.at.offset_bounds-list-head-3 c).After-head-head))

pub bounds-list-head-3 : goal.bounds-list-head-3
bounds-list-head-3 c = omega (arith, low ((goal.at.bounds-list-head-3 c).After-head-head), within ((goal.at.bounds-list-head-3 c).After-head-head))

pub returns : goal.returns
unfolding network_sizes
returns c = rw c.head-head.ensures
