-- `fields::put_digits` meets its contract.
use Prim.Native.Nat.{◌+◌, ◌-◌, ◌%◌}
use mathlib.Core.Path.{◌≡◌, ◌∙◌}
use Rattle.forms.proofs.Numbers.{length_digits}
use Rattle.lines.proofs.Writing.{digits-start, digits-turn}
use Rattle.fields.proofs.Fields.{digit_char_lem}
use native.Mathlib.Omega.{arith}
use Rattle.fields.proofs.put_digits.Goals as goal

pub loop-i-init : goal.loop-i-init
loop-i-init c = let a = c.args in
    let p = digits-start a.out.now a.from 10 a.n a.v in
    record { left = p.0; written = p.1 }

pub loop-i-preserved : goal.loop-i-preserved
loop-i-preserved c = let a = c.args in
    let p = digits-turn a.out.now a.from 10 a.n a.v c.loop-i.i c.loop-i.left _ (omega arith) (omega arith) c.requires c.loop-i.invariant.left (digit_char_lem (c.loop-i.left % 10) (omega arith)) in
    record {
      left = p.0;
      written = rw c.loop-i.invariant.written p.1;
    }

pub returns : goal.returns
returns c = let a = c.args in
    let z : c.loop-i.i ≡ 0 = omega arith in
    let e : a.from + c.loop-i.i ≡ a.from = omega arith in
    let m : a.n - c.loop-i.i ≡ a.n = omega arith in
    record { place = rw (length_digits 10 a.n a.v); bytes = c.loop-i.invariant.written ∙ rw (e, m) }
