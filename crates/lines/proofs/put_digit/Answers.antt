-- `lines::put_digit` meets its contract.
use native.Mathlib.Omega.{arith}
use Rattle.lines.proofs.Writing.{puts-byte, digit-byte}
use Rattle.lines.proofs.put_digit.Goals as goal

pub returns : goal.returns
returns c = rw (digit-byte c.args.x c.requires.x_bound) (puts-byte _ _ _ (omega arith))
