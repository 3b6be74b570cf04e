-- `checker::marks::raise` meets its contract.
use Rattle.checker.proofs.Marking.{Raising}
use Rattle.checker.proofs.marks.raise.Given as goal

abbrev pub invariant-loop-f : goal.invariant-loop-f
invariant-loop-f l = Raising l.f l.sums l.initial.largest l.largest
