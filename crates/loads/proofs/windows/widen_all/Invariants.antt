-- `loads::windows::widen_all` meets its contract.
use lib.Dec.{ltb}
use Rattle.loads.specs.Windows.{WidenedOn}
use Rattle.loads.proofs.windows.widen_all.Given as goal

abbrev pub invariant-loop-j : goal.invariant-loop-j
invariant-loop-j l = WidenedOn l.times (λ i. ltb i l.j) l.initial.table l.table
