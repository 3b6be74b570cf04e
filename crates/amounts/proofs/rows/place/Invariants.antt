-- `amounts::rows::place` meets its contract.
use Rattle.amounts.specs.Rows.{Placed}
use Rattle.amounts.proofs.rows.place.Given as goal

abbrev pub invariant-loop-t : goal.invariant-loop-t
invariant-loop-t g l = Placed (goal.F-post g l.amount) l.t l.k l.initial.amounts.numbers l.amounts.numbers
