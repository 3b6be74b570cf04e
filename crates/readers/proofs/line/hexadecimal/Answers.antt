-- `readers::line::hexadecimal` meets its contract.
use Rattle.std.proofs.Common.{◌≡◌, ◌*◌, ◌+◌, ◌^◌, ◌<◌, sym, le_refl, arith, lit≤}
use Rattle.readers.specs.Line.{DigitsTo}
use Rattle.readers.proofs.Digits.{digits_more, digit_room, closed, hex-short, hex-other, hex-long, hex-some}
use Rattle.readers.proofs.line.hexadecimal.Goals as goal
use Rattle.readers.proofs.line.hexadecimal.Goals.{After-digit-x, After-loop-i}

-- a digit is read
room : (c : After-digit-x) → c.digit-x.result < 16 → c.loop-i.number * 16 + c.digit-x.result < 2 ^ 64
room c h = digit_room 16 _ _ _ _ c.loop-i.invariant.digits (omega arith) (sym c.digit-x.ensures) h 16 (omega arith) (lit≤ tt) (le_refl _)

-- all 16 are
whole : (c : After-loop-i) → DigitsTo 16 c.args.text.now c.loop-i.number 16
whole c =
    let e : c.loop-i.i ≡ 16 = omega arith in
    rw e at c.loop-i.invariant.digits

pub returns-then-text-lt17 : goal.returns-then-text-lt17
returns-then-text-lt17 c = hex-short _ c.if-text-lt17.true

pub returns-then-x-ge16 : goal.returns-then-x-ge16
returns-then-x-ge16 c = hex-other _ _ _ c.loop-i.invariant.digits (omega arith) (omega arith) (rw (← c.digit-x.ensures) c.if-x-ge16.true)

pub overflow_mul-number : goal.overflow_mul-number
overflow_mul-number c = omega (arith, room ((goal.at.overflow_mul-number c).After-digit-x) c.if-x-ge16.false)

pub overflow_add-number : goal.overflow_add-number
overflow_add-number c = omega (arith, room ((goal.at.overflow_add-number c).After-digit-x) c.if-x-ge16.false)

pub loop-i-preserved : goal.loop-i-preserved
loop-i-preserved c = record { digits = digits_more 16 _ _ _ _ c.loop-i.invariant.digits (omega arith) (sym c.digit-x.ensures) c.if-x-ge16.false (le_refl _) }

pub returns-then-text-ne10 : goal.returns-then-text-ne10
returns-then-text-ne10 c = hex-long _ _ (whole ((goal.at.returns-then-text-ne10 c).After-loop-i)) (omega arith) c.if-text-ne10.true

pub returns : goal.returns
returns c =
    let all = whole ((goal.at.returns c).After-loop-i) in
    (hex-some _ _ all (omega arith) c.if-text-ne10.false, (closed _ 16 _ 16 all (omega arith) c.if-text-ne10.false).first)
