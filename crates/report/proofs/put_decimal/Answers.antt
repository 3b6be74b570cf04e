use Rattle.std.proofs.Common.{◌+◌, ◌-◌, ◌≡◌, ◌≤◌, ◌∙◌, length, arith}
use Rattle.forms.proofs.Numbers.{length_digits}
use Rattle.lines.proofs.Writing.{digits-start, digits-turn}
use Rattle.report.specs.Printed.{decimal}
use Rattle.report.proofs.Decimals.{digit-byte}
use Rattle.report.proofs.put_decimal.Goals as goal

pub loop-i-init : goal.loop-i-init
loop-i-init c =
    let p = digits-start c.args.out.now c.args.at 10 c.digit_count-count.result c.args.v in
    record { left = p.0; written = p.1 }

pub loop-i-preserved : goal.loop-i-preserved
loop-i-preserved c =
    let room : c.args.at + c.digit_count-count.result ≤ length c.args.out.now = omega (arith, c.requires, c.digit_count-count.ensures.most) in
    let p = digits-turn c.args.out.now c.args.at 10 c.digit_count-count.result c.args.v c.loop-i.i c.loop-i.rest _ (omega arith) (omega arith) room c.loop-i.invariant.left (digit-byte c.loop-i.rest) in
    record { left = p.0; written = rw c.loop-i.invariant.written p.1 }

pub returns : goal.returns
unfolding decimal
returns c =
    let n = c.digit_count-count.result in
    let z : c.loop-i.i ≡ 0 = omega arith in
    let none : c.args.at + c.loop-i.i ≡ c.args.at = omega arith in
    let all : n - c.loop-i.i ≡ n = omega arith in
    rw (← c.digit_count-count.ensures.value) (record { place = rw (length_digits 10 n c.args.v); bytes = c.loop-i.invariant.written ∙ rw (none, all) })
