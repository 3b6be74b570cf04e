-- `writers::write::put_plan` meets its contract.
use Prim.Native.Nat.{◌+◌}
use lib.ListN.{length}
use Rattle.forms.specs.Form.{plan_lines}
use Rattle.forms.specs.declared.form.Form.TheVariants.{Plan}
use Rattle.lines.specs.Puts.{Puts}
use Rattle.lengths.specs.Lines.{lines_from}
use Rattle.writers.proofs.write.put_plan.Given as goal

abbrev pub invariant-loop-amount : goal.invariant-loop-amount
invariant-loop-amount l = Puts (lines_from Plan l.plan 0 (length plan_lines + l.amount-index)) 0 l.fn.out l.out l.p
