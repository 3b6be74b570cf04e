-- `amounts::columns::Bounds::of_all` meets its contract.
use Rattle.lists.specs.Lists.{network_of}
use Rattle.amounts.proofs.Bounds.{bounds-more}
use native.Mathlib.Omega.{arith}
use Rattle.amounts.proofs.columns.Bounds.of_all.Goals as goal

pub loop-l-preserved : goal.loop-l-preserved
unfolding network_of
loop-l-preserved c = bounds-more _ _ _ _ _ (omega arith) c.of.ensures c.loop-l.invariant
