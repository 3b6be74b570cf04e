-- `loads::windows::widen` meets its contract.
use Rattle.loads.proofs.Widening.{Going}
use Rattle.loads.proofs.windows.widen.Given as goal

abbrev pub invariant-loop-k : goal.invariant-loop-k
invariant-loop-k l = Going l.j l.k l.initial.table l.table
