-- `switches::tables::shift` meets its contract: the switches passed are shifted, and what is left of the set falls. Assumes nothing.
use Rattle.switches.proofs.Shifts.{Shifting}
use Rattle.switches.proofs.tables.shift.Given as goal

abbrev pub invariant-loop-set : goal.invariant-loop-set
invariant-loop-set l = Shifting l.via l.more l.less l.initial.counts l.set l.counts

abbrev pub decreases-loop-set : goal.decreases-loop-set
decreases-loop-set l = l.set
