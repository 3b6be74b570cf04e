-- `checker::marks::Window::largest_amount` meets its contract.
use Prim.Native.Nat.{◌+◌, ◌-◌}
use mathlib.Core.Path.{◌≡◌}
use Rattle.model.specs.Largest as model
use Rattle.model.specs.Net.{row}
use Rattle.lists.specs.Lists.{network_of, plan_of}
use Rattle.checker.proofs.marks.Window.largest_amount.Given as goal

abbrev pub invariant-loop-a : goal.invariant-loop-a
invariant-loop-a l = l.largest ≡ model.largest (l.a - l.self.row) (λ b. row (network_of l.self.pair.now.network) (plan_of l.self.pair.now.plan) (l.self.row + b) l.t)
