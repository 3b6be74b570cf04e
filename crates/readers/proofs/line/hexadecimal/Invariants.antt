-- `readers::line::hexadecimal` meets its contract.
use Rattle.readers.specs.Line.{DigitsTo}
use Rattle.readers.proofs.line.hexadecimal.Given as goal

abbrev pub invariant-loop-i : goal.invariant-loop-i
invariant-loop-i l = record { digits : DigitsTo 16 l.text l.number l.i }
