-- `amounts::pair::Pair::larger` meets its contract.
use Rattle.amounts.specs.Rows.{larger_row}
use Rattle.amounts.proofs.pair.Pair.larger.Goals as goal

pub returns-clause-value : goal.returns-clause-value
unfolding larger_row
returns-clause-value c = cc
