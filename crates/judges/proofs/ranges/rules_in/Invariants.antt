-- `judges::ranges::rules_in` meets its contract.
use Rattle.judges.specs.Ranges.{RulesIn}
use Rattle.judges.proofs.ranges.rules_in.Given as goal

abbrev pub invariant-loop-t : goal.invariant-loop-t
invariant-loop-t l = RulesIn l.list l.t
