-- `switches::room::by_counts` meets its contract: the switches passed are not too full, and what is spare at each is in its table. Assumes nothing.
use Rattle.rules.specs.Lists.{rules_of}
use Rattle.switches.proofs.Fitting.{Judging}
use Rattle.switches.proofs.room.by_counts.Given as goal

abbrev pub invariant-loop-s : goal.invariant-loop-s
invariant-loop-s l = Judging (rules_of l.rules) l.s l.spares
