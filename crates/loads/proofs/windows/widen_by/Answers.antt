-- `loads::windows::widen_by` meets its contract.
use Rattle.loads.proofs.Widening.{times_none, times_more}
use Rattle.loads.proofs.windows.widen_by.Goals as goal

pub loop-p-init : goal.loop-p-init
loop-p-init c = times_none _ _

pub loop-p-preserved : goal.loop-p-preserved
loop-p-preserved c = times_more _ _ _ _ _ c.loop-p.invariant c.widen.ensures
