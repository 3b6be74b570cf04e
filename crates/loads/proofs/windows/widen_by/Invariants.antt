-- `loads::windows::widen_by` meets its contract.
use lib.Dec.{eqb}
use Rattle.loads.specs.Windows.{WidenedOn}
use Rattle.loads.proofs.windows.widen_by.Given as goal

abbrev pub invariant-loop-p : goal.invariant-loop-p
invariant-loop-p l = WidenedOn l.p (λ i. eqb i l.j) l.initial.table l.table
