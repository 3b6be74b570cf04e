-- `judges::ranges::links_in` meets its contract.
use Rattle.lists.specs.Good.{LinksIn}
use Rattle.judges.proofs.ranges.links_in.Given as goal

abbrev pub invariant-loop-k : goal.invariant-loop-k
invariant-loop-k l = LinksIn l.list l.k
