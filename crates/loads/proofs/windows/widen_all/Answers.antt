-- `loads::windows::widen_all` meets its contract.
use Rattle.loads.proofs.Widening.{widened_more, below_next}
use Rattle.loads.proofs.windows.widen_all.Goals as goal

pub loop-j-preserved : goal.loop-j-preserved
loop-j-preserved c = widened_more _ _ _ _ _ _ _ (below_next _) c.loop-j.invariant c.widen_by.ensures
