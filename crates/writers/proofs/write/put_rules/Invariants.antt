-- `writers::write::put_rules` meets its contract.
use Rattle.forms.specs.declared.form.Form.TheVariants.{Rules}
use Rattle.lines.specs.Puts.{Puts}
use Rattle.lengths.specs.Lines.{lines_from}
use Rattle.writers.proofs.write.put_rules.Given as goal

abbrev pub invariant-loop-i : goal.invariant-loop-i
invariant-loop-i l = Puts (lines_from Rules l.list 0 l.i) 0 l.initial.out l.out l.p
