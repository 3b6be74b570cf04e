-- `amounts::rows::fill` meets its contract.
use Rattle.std.proofs.Common.{rules}
use native.Mathlib.Omega.{arith}
use Rattle.amounts.proofs.Tables.{rows_more}
use Rattle.amounts.proofs.rows.fill.Goals as goal

pub loop-k-preserved : goal.loop-k-preserved
loop-k-preserved g c = rows_more _ _ _ _ _ _ _ _ (omega arith) (λ t r p. search rules) c.loop-k.invariant c.place.ensures
