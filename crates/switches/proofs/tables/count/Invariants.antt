-- `switches::tables::count` meets its contract: the tunnels passed are counted. Assumes nothing.
use Rattle.rules.specs.Rules.{is_kind}
use Rattle.rules.specs.Lists.{rules_of}
use Rattle.switches.specs.Inner.{Counted}
use Rattle.switches.proofs.tables.count.Given as goal

abbrev pub invariant-loop-t : goal.invariant-loop-t
invariant-loop-t l = Counted (rules_of l.rules) l.t (is_kind (rules_of l.rules) l.kind) l.counts
