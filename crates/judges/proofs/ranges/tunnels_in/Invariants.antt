-- `judges::ranges::tunnels_in` meets its contract.
use Rattle.lists.specs.Good.{TunnelsIn}
use Rattle.judges.proofs.ranges.tunnels_in.Given as goal

abbrev pub invariant-loop-t : goal.invariant-loop-t
invariant-loop-t l = TunnelsIn l.list l.t
