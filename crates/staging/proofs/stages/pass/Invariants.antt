-- `staging::stages::pass` meets its contract: the turns so far are those of the definition. Assumes nothing.
use mathlib.Core.Path.{◌≡◌}
use Rattle.lists.specs.Lists.{at, table_sizes, rule_at}
use Rattle.rules.specs.Stage as model
use Rattle.rules.specs.Lists.{rules_of}
use Rattle.rules.specs.Kinds.{kind_number}
use Rattle.staging.specs.Inner.{move_of, Reached}
use Rattle.staging.proofs.stages.pass.Given as goal

abbrev pub invariant-loop-t : goal.invariant-loop-t
invariant-loop-t l = record {
  here : l.from ≡ rule_at (table_sizes l.rules) l.t;
  reached : Reached l.rules (move_of (kind_number l.p.kind)) (model.pass (rules_of l.rules) (move_of (kind_number l.p.kind)) l.p.stage (at l.initial.stages) l.t) l.counts l.stages;
}
