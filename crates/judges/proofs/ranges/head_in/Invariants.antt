-- `judges::ranges::head_in` meets its contract.
use Rattle.judges.specs.Ranges.{HeadIn}
use Rattle.judges.proofs.ranges.head_in.Given as goal

abbrev pub invariant-loop-i : goal.invariant-loop-i
invariant-loop-i l = HeadIn l.form l.list l.i
