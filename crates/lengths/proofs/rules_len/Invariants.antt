-- `lengths::rules_len` meets its contract.
use Prim.Native.Nat.{◌≤◌, ◌*◌}
use mathlib.Core.Path.{◌≡◌}
use lib.ListN.{length}
use Rattle.forms.specs.declared.form.Form.TheVariants.{Rules}
use Rattle.lengths.specs.Lines.{lines_from}
use Rattle.lengths.proofs.rules_len.Given as goal

abbrev pub invariant-loop-i : goal.invariant-loop-i
invariant-loop-i l = record { few : l.i ≤ length l.list; sum-is : l.sum ≡ length (lines_from Rules l.list 0 l.i); small : l.sum ≤ 27 * l.i }
