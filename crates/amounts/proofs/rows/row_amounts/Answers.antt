-- `amounts::rows::row_amounts` meets its contract.
use Rattle.std.proofs.Common.{rules}
use Rattle.amounts.proofs.Tables.{rows_are}
use Rattle.amounts.proofs.rows.row_amounts.Goals as goal

pub returns : goal.returns
returns c = rows_are _ _ _ _ _ _ _ _ _ (cc) (cc) (λ a t r p. search rules) c.fill.ensures
