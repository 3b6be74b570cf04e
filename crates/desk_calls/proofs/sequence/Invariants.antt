use Rattle.std.proofs.Common.{◌<◌}
use Rattle.desk_calls.proofs.sequence.Given as goal

abbrev pub invariant-loop-i : goal.invariant-loop-i
invariant-loop-i l = l.x < 2147483648
