-- `lines::put_hex` meets its contract.
use Prim.Native.Nat.{◌+◌, ◌-◌}
use mathlib.Core.Path.{◌≡◌, ◌∙◌}
use native.Mathlib.Omega.{arith}
use Rattle.forms.proofs.Numbers.{length_digits}
use Rattle.lines.proofs.Writing.{digits-start, digits-turn}
use Rattle.lines.proofs.put_hex.Goals as goal

pub loop-i-init : goal.loop-i-init
loop-i-init c =
    let a = c.args in
    let p = digits-start a.out.now a.at 16 16 a.v in
    record { left = p.0; written = p.1 }

pub loop-i-preserved : goal.loop-i-preserved
loop-i-preserved c =
    let a = c.args in
    let p = digits-turn a.out.now a.at 16 16 a.v c.loop-i.i c.loop-i.left c.digit_char.result (omega arith) (omega arith) c.requires c.loop-i.invariant.left c.digit_char.ensures in
    record { left = p.0; written = rw c.loop-i.invariant.written p.1 }

pub returns : goal.returns
returns c =
    let a = c.args in
    let z : c.loop-i.i ≡ 0 = omega arith in
    let e : a.at + c.loop-i.i ≡ a.at = omega arith in
    let n : 16 - c.loop-i.i ≡ 16 = omega arith in
    record { place = rw (length_digits 16 16 a.v); bytes = c.loop-i.invariant.written ∙ rw (e, n) }
