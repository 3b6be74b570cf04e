-- `checker::marks::Window::largest_sums` meets its contract.
use Prim.Native.Nat.{◌-◌}
use Rattle.lists.specs.Lists.{network_of, plan_of}
use Rattle.checker.specs.Inner.{LargestSums}
use Rattle.checker.proofs.marks.Window.largest_sums.Given as goal

abbrev pub invariant-loop-a : goal.invariant-loop-a
invariant-loop-a l = LargestSums (network_of l.self.pair.now.network) (plan_of l.self.pair.now.plan) l.self.row l.self.link (l.a - l.self.row) l.largest
