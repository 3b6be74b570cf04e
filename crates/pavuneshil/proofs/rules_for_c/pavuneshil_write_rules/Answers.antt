-- `pavuneshil::rules_for_c::pavuneshil_write_rules` meets its contract. What `staging` answers, as four numbers. Assumes nothing.
use mathlib.Core.Path.{ap, ◌∙◌}
use Rattle.pavuneshil.specs.Four.{four}
use Rattle.pavuneshil.proofs.rules_for_c.pavuneshil_write_rules.Goals as goal

pub returns : goal.returns
returns c = let p = c.write_rules.ensures in record {
  answer_after = c.numbers.ensures ∙ ap four p.value;
  out_after = p.out_after;
}
