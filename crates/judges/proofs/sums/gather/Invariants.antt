-- `judges::sums::gather` meets its contract.
use Rattle.lists.specs.Lists.{network_of}
use Rattle.judges.specs.Sums.{Gathered, pair_of}
use Rattle.judges.proofs.sums.gather.Given as goal

abbrev pub invariant-loop-t : goal.invariant-loop-t
invariant-loop-t l = Gathered (network_of l.list) (pair_of (network_of l.list)) l.t l.sums
