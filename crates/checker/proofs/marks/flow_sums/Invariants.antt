-- `checker::marks::flow_sums` meets its contract.
use Rattle.model.specs.Net.{row}
use Rattle.model.specs.Rule.{across}
use Rattle.lists.specs.Lists.{network_of, plan_of}
use Rattle.judges.specs.Sums.{Gathered}
use Rattle.checker.proofs.marks.flow_sums.Given as goal

abbrev pub invariant-loop-t : goal.invariant-loop-t
invariant-loop-t l = Gathered (network_of l.pair.network) (across (network_of l.pair.network) l.l (row (network_of l.pair.network) (plan_of l.pair.plan) l.a)) l.t l.sums
