use Rattle.std.proofs.Common.{◌+◌, ◌≤◌, ◌++◌, length, arith, length-append, refl}
use Rattle.forms.specs.Bytes.{bytes}
use Rattle.lines.proofs.Writing.{then-puts}
use Rattle.report.specs.Printed.{printed_line}
use Rattle.report.proofs.Decimals.{line-most, line-past}
use Rattle.report.proofs.put_refusal.Goals as goal

pub put_line-second_at-requires : goal.put_line-second_at-requires
put_line-second_at-requires c = omega (arith, c.requires, c.put_line-place_at.auto.out, line-past (bytes "refused=") 8 refl c.args.number (omega arith) c.put_line-place_at.ensures)

pub put_line-requires : goal.put_line-requires
put_line-requires c =
    let past = line-past (bytes "refused=") 8 refl c.args.number (omega arith) c.put_line-place_at.ensures in
    let room : c.put_line-place_at.result + (6 + 21) ≤ length c.put_line-place_at.new.out = omega (arith, past, c.put_line-place_at.auto.out, c.requires) in
    omega (arith, past, c.put_line-place_at.auto.out, c.put_line-second_at.auto.out, line-past (bytes "place=") 6 refl c.args.place room c.put_line-second_at.ensures, c.requires)

pub returns : goal.returns
returns c =
    let a = printed_line (bytes "refused=") c.args.number in
    let b = printed_line (bytes "place=") c.args.place in
    let d = printed_line (bytes "second=") c.args.second in
    let k = line-most (bytes "refused=") c.args.number in
    let l = line-most (bytes "place=") c.args.place in
    let m = line-most (bytes "second=") c.args.second in
    then-puts (omega (arith, c.requires, k, l, m, length-append (a ++ b) d, length-append a b))
    (then-puts (omega (arith, c.requires, k, l, length-append a b)) c.put_line-place_at.ensures c.put_line-second_at.ensures) c.put_line.ensures
