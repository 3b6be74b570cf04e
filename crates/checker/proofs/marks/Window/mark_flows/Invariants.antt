-- `checker::marks::Window::mark_flows` meets its contract.
use mathlib.Core.Path.{◌≡◌}
use mathlib.Core.List.{◌++◌}
use lib.ListN.{length, drop}
use Rattle.lists.specs.Lists.{network_of, plan_of}
use Rattle.checker.specs.Inner.{marks_at}
use Rattle.checker.proofs.marks.Window.mark_flows.Given as goal

abbrev pub invariant-loop-t : goal.invariant-loop-t
invariant-loop-t l = (length l.marks ≡ length l.initial.marks) × (l.marks ≡ marks_at l.self.lag (network_of l.self.pair.now.network) (plan_of l.self.pair.now.plan) l.self.row l.self.link l.t ++ drop l.t l.initial.marks)
