-- `readers::line::leading_digits` meets its contract.
use Rattle.readers.specs.Line.{DigitsTo}
use Rattle.readers.proofs.line.leading_digits.Given as goal

abbrev pub invariant-loop-i : goal.invariant-loop-i
invariant-loop-i l = record { digits : DigitsTo 10 l.text l.number l.i }
