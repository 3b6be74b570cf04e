-- `readers::line::decimal` meets its contract.
use Rattle.std.proofs.Common.{◌<◌, length, arith}
use Rattle.readers.proofs.Digits.{decimal-no-digit, decimal-cut, decimal-other, decimal-part, decimal-one, decimal-zero, decimal-many}
use Rattle.readers.proofs.line.decimal.Goals as goal
use Rattle.readers.proofs.line.decimal.Goals.{After-leading_digits-run, then-n-eq0-via-then-n-eq0, then-n-eq0-via-else-n-eq0+then-n-text, then-n-eq0-via-else-n-eq0+else-n-text+then-text-n-ne10, else-n-ne1-via-then-n-ne1+else-text-eq48, else-n-ne1-via-else-n-ne1}

pub returns-then-n-eq0 : goal.returns-then-n-eq0
returns-then-n-eq0 c =
    elim c.then-n-eq0.branch [
      | then-n-eq0-via-then-n-eq0 w ↦ decimal-no-digit _ _ _ c.leading_digits-run.ensures w.if-n-eq0.true
      | then-n-eq0-via-else-n-eq0+then-n-text w ↦ decimal-cut _ _ _ c.leading_digits-run.ensures w.if-n-text.true
      | then-n-eq0-via-else-n-eq0+else-n-text+then-text-n-ne10 w ↦ decimal-other _ _ _ c.leading_digits-run.ensures (omega (arith, c.leading_digits-run.ensures.digits.within, w.if-n-text.false)) w.if-text-n-ne10.true
    ]

pub returns-then-text-eq48 : goal.returns-then-text-eq48
returns-then-text-eq48 c =
    decimal-zero _ _ _ c.leading_digits-run.ensures (omega (arith, c.leading_digits-run.ensures.digits.within, c.if-n-text.false)) c.if-text-n-ne10.false c.if-n-eq0.false c.if-n-ne1.true c.if-text-eq48.true

pub returns : goal.returns
returns c =
    let less : length c.leading_digits-run.result.digits.now < length c.args.text.now = omega (arith, c.leading_digits-run.ensures.digits.within, c.if-n-text.false) in (
      elim c.else-n-ne1.branch [
        | else-n-ne1-via-then-n-ne1+else-text-eq48 w ↦ decimal-many _ _ _ c.leading_digits-run.ensures less c.if-text-n-ne10.false c.if-n-eq0.false w.if-n-ne1.true w.if-text-eq48.false
        | else-n-ne1-via-else-n-ne1 w ↦ decimal-one _ _ _ c.leading_digits-run.ensures less c.if-text-n-ne10.false w.if-n-ne1.false
      ],
      decimal-part _ _ _ c.leading_digits-run.ensures less c.if-text-n-ne10.false,
    )
