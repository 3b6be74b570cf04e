-- `readers::line::remark_len` meets its contract.
use Rattle.readers.proofs.Remarks.{Unfed}
use Rattle.readers.proofs.line.remark_len.Given as goal

abbrev pub invariant-loop-n : goal.invariant-loop-n
invariant-loop-n l = record { unfed : Unfed l.text l.n }
