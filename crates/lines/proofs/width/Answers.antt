-- `lines::width` meets its contract.
use Prim.Native.Nat.{◌/◌}
use mathlib.Core.Path.{◌≡◌, ap}
use native.Mathlib.Nat.{div-div-eq-div-mul}
use native.Mathlib.Omega.{arith}
use Rattle.forms.specs.Write.{width_of}
use Rattle.forms.proofs.Numbers.{width-most}
use Rattle.lines.proofs.Digits.{width-split}
use Rattle.lines.proofs.width.Goals as goal

pub returns-then-v-lt10000 : goal.returns-then-v-lt10000
returns-then-v-lt10000 c = (c.short_width.ensures.0, omega (arith, c.short_width.ensures.1))

pub returns-then-v-lt100000000 : goal.returns-then-v-lt100000000
returns-then-v-lt100000000 c =
    let v = c.args.v in
    omega (arith, width-split v c.if-v-lt10000.false c.requires, c.short_width-then-v-lt100000000.ensures)

pub returns : goal.returns
returns c =
    let v = c.args.v in
    let e : v / 10000 / 10000 ≡ v / 100000000 = div-div-eq-div-mul v 10000 10000 in
    omega (arith, width-split v c.if-v-lt10000.false c.requires, width-split (v / 10000) (omega (arith, c.if-v-lt100000000.false)) (omega (arith, c.requires)), ap width_of e, width-most v 10 (omega arith) (omega arith) c.requires, c.short_width-2.ensures)
