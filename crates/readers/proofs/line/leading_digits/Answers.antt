-- `readers::line::leading_digits` meets its contract.
use Rattle.std.proofs.Common.{◌<◌, length, inl, arith, lit≤}
use Rattle.readers.proofs.Digits.{digit-decimal, digit-above, leading, digits_more}
use Rattle.readers.proofs.line.leading_digits.Goals as goal
use Rattle.readers.proofs.line.leading_digits.Goals.{then-i-text-via-then-i-text, then-i-text-via-else-i-text+then-not-is_ascii_digit}

pub returns-then-i-text : goal.returns-then-i-text
returns-then-i-text c =
    elim c.then-i-text.branch [
      | then-i-text-via-then-i-text w ↦ leading _ _ _ c.loop-i.invariant.digits (omega arith) (λ k. absurd (omega (arith, w.if-i-text.true, k)))
      | then-i-text-via-else-i-text+then-not-is_ascii_digit w ↦ leading _ _ _ c.loop-i.invariant.digits (omega arith) (λ k. inl (digit-above _ w.if-not-is_ascii_digit.ensures.cases))
    ]

pub loop-i-preserved : goal.loop-i-preserved
loop-i-preserved c =
    let less : c.loop-i.i < length c.args.text.now = omega (arith, c.loop-i.invariant.digits.within, c.if-i-text.false) in
    let within = c.if-not-is_ascii_digit.ensures.cases in
    record { digits = digits_more 10 _ _ _ _ c.loop-i.invariant.digits less (digit-decimal _ within.0 within.1) (omega (arith, within.0, within.1)) (lit≤ tt) }
