-- `readers::line::digits` meets its contract.
use Rattle.std.proofs.Common.{◌≡◌}
use Rattle.forms.specs.Line.{value_part}
use Rattle.readers.specs.Line.{first_line, value_first}
use Rattle.readers.proofs.Lines.{key-value, value-other}
use Rattle.readers.proofs.Digits.{no-digits}
use Rattle.readers.proofs.line.digits.Goals as goal
use Rattle.readers.proofs.line.digits.Goals.{In_ok-value}

-- the key stands first
value : (c : In_ok-value) → value_part c.args.key.now (first_line c.args.text.now) ≡ value_first c.in_ok-value.value.now
value c = key-value _ _ _ c.requires c.in_ok-value.ensures

pub returns-in_err-value : goal.returns-in_err-value
returns-in_err-value c =
    rw (c.from_residual.ensures, value-other _ _ c.requires c.in_err-value.ensures) (no-digits c.args.hex)

pub returns-then-hex : goal.returns-then-hex
returns-then-hex c = rw (c.if-hex.true, value ((goal.at.returns-then-hex c).In_ok-value)) c.hexadecimal.ensures

pub returns-else-hex : goal.returns-else-hex
returns-else-hex c = rw (c.if-hex.false, value ((goal.at.returns-else-hex c).In_ok-value)) c.decimal.ensures
