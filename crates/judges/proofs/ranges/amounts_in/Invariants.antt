-- `judges::ranges::amounts_in` meets its contract.
use Rattle.judges.specs.Ranges.{AmountsIn}
use Rattle.judges.proofs.ranges.amounts_in.Given as goal

abbrev pub invariant-loop-i : goal.invariant-loop-i
invariant-loop-i l = AmountsIn l.list l.high l.i
