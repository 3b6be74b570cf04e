-- `judges::ranges::flows_in` meets its contract.
use Rattle.lists.specs.Good.{FlowsIn}
use Rattle.judges.proofs.ranges.flows_in.Given as goal

abbrev pub invariant-loop-f : goal.invariant-loop-f
invariant-loop-f l = FlowsIn l.list l.f
