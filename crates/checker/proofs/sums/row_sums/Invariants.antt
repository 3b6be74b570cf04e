-- `checker::sums::row_sums` meets its contract.
use Rattle.model.specs.Net.{row}
use Rattle.lists.specs.Lists.{network_of, plan_of}
use Rattle.judges.specs.Sums.{Gathered}
use Rattle.checker.proofs.sums.row_sums.Given as goal

abbrev pub invariant-loop-t : goal.invariant-loop-t
invariant-loop-t l = Gathered (network_of l.pair.network) (row (network_of l.pair.network) (plan_of l.pair.plan) l.a) l.t l.sums
