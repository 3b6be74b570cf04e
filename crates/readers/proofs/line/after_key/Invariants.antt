-- `readers::line::after_key` meets its contract.
use Rattle.std.proofs.Common.{◌≡◌, take}
use Rattle.readers.proofs.line.after_key.Given as goal

abbrev pub invariant-loop-i : goal.invariant-loop-i
invariant-loop-i l = take l.i l.text ≡ take l.i l.key
