-- `switches::tables::fits` meets its contract: there is room at the switches passed, and what is left of the set falls. Assumes nothing.
use Rattle.switches.proofs.Shifts.{Fitting}
use Rattle.switches.proofs.tables.fits.Given as goal

abbrev pub invariant-loop-left : goal.invariant-loop-left
invariant-loop-left l = Fitting l.via l.unit l.more l.times l.counts l.spares l.left

abbrev pub decreases-loop-left : goal.decreases-loop-left
decreases-loop-left l = l.left
