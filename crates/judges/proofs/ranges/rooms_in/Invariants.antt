-- `judges::ranges::rooms_in` meets its contract.
use Rattle.judges.specs.Ranges.{RoomsIn}
use Rattle.judges.proofs.ranges.rooms_in.Given as goal

abbrev pub invariant-loop-s : goal.invariant-loop-s
invariant-loop-s l = RoomsIn l.list l.s
