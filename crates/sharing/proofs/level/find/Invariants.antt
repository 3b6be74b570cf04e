-- `sharing::level::find` meets its contract. Assumes nothing.
use Rattle.sharing.proofs.Filling.{Filling}
use Rattle.sharing.proofs.level.find.Given as goal

abbrev pub invariant-loop-above : goal.invariant-loop-above
invariant-loop-above l = Filling l.rate l.demands l.met l.above

abbrev pub decreases-loop-above : goal.decreases-loop-above
decreases-loop-above l = l.above
