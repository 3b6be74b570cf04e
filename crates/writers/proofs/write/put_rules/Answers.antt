-- `writers::write::put_rules` meets its contract.
use Prim.Native.Nat.{◌≤◌, ◌+◌}
use mathlib.Core.Path.{◌≡◌, refl, sym, ap}
use native.Mathlib.Nat.{zero-add, le_of_lt}
use native.Mathlib.Omega.{arith}
use lib.ListN.{length, get_or}
use Rattle.forms.specs.Write.{line_of}
use Rattle.forms.specs.declared.form.Form.TheVariants.{Rules}
use Rattle.forms.proofs.Forms.{sound-take}
use Rattle.lengths.specs.Lines.{lines_from, line_at}
use Rattle.lengths.proofs.Runs.{all_lines, no_lines, next_fits, next-put, writable, line-here}
use Rattle.writers.proofs.write.put_rules.Goals as goal
use Rattle.writers.proofs.write.put_rules.Goals.{After-rules_field-line}

-- in a turn
module _ (c : After-rules_field-line) where
  fits : 0 + length (lines_from Rules c.args.list.now 0 (length c.args.list.now)) ≤ length c.args.out.now
  fits = omega (arith, c.requires.room, ap length (all_lines Rules c.args.list.now))

  line : line_at Rules c.args.list.now c.loop-i.i ≡ line_of c.rules_field-line.result (get_or c.args.list.now c.loop-i.i 0)
  line = line-here _ _ _ c.loop-i-test.true c.requires.whole.sound _ c.rules_field-line.ensures

pub loop-i-init : goal.loop-i-init
loop-i-init c = no_lines _ _ 0 0 _

pub rules_field-line-requires : goal.rules_field-line-requires
rules_field-line-requires c = sound-take Rules _ _ (le_of_lt c.loop-i-test.true) c.requires.whole.sound

pub put_field-p-requires-clause-writable : goal.put_field-p-requires-clause-writable
put_field-p-requires-clause-writable c = writable _ _ _ c.loop-i-test.true c.requires.whole.sound _ c.rules_field-line.ensures

pub put_field-p-requires-clause-room : goal.put_field-p-requires-clause-room
put_field-p-requires-clause-room c =
    let p = (goal.at.put_field-p-requires-clause-room c).After-rules_field-line in
    next_fits _ _ 0 _ (fits p) _ _ c.loop-i-test.true (sym (zero-add _)) (line p) c.loop-i.invariant

pub loop-i-preserved : goal.loop-i-preserved
loop-i-preserved c =
    let p = (goal.at.loop-i-preserved c).After-rules_field-line in
    next-put _ _ 0 _ (fits p) _ _ c.loop-i-test.true (sym (zero-add _)) (line p) c.loop-i.invariant _ refl c.put_field-p.ensures

pub returns : goal.returns
returns c =
    let e : c.loop-i.i ≡ length c.args.list.now = omega (arith, c.loop-i.auto.i-end, c.loop-i-test.false) in
    rw (e, all_lines Rules c.args.list.now) at c.loop-i.invariant
