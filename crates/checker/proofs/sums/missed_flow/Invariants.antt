-- `checker::sums::missed_flow` meets its contract.
use Rattle.lists.specs.Lists.{network_of}
use Rattle.checker.specs.Inner.{Between}
use Rattle.checker.proofs.sums.missed_flow.Given as goal

abbrev pub invariant-loop-f : goal.invariant-loop-f
invariant-loop-f l = Between (network_of l.network) l.parts l.sums l.f
