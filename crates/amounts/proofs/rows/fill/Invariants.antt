-- `amounts::rows::fill` meets its contract.
use Rattle.amounts.specs.Rows.{RowsGiven}
use Rattle.amounts.proofs.rows.fill.Given as goal

abbrev pub invariant-loop-k : goal.invariant-loop-k
invariant-loop-k g l = RowsGiven (goal.F-post g l.amount) l.n l.end l.i l.k-counter l.amounts.numbers
