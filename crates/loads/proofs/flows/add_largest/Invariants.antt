-- `loads::flows::add_largest` meets its contract: as `add_tunnel` of gather.rt, with two tables.
use Rattle.model.proofs.Sets.{Passing}
use Rattle.loads.specs.Parts.{number_of}
use Rattle.loads.proofs.ByFlow.{Both}
use Rattle.loads.proofs.flows.add_largest.Given as goal

abbrev pub invariant-loop-left : goal.invariant-loop-left
invariant-loop-left l = Passing (Both l.links (number_of l.part) l.times l.initial.sums l.initial.loads) l.set l.left (l.sums, l.loads)

abbrev pub decreases-loop-left : goal.decreases-loop-left
decreases-loop-left l = l.left
