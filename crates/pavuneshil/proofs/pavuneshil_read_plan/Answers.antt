-- `pavuneshil::pavuneshil_read_plan` meets its contract. What `product` answers, as four numbers. Assumes nothing.
use mathlib.Core.Path.{ap, ◌∙◌}
use Rattle.pavuneshil.specs.Four.{four}
use Rattle.pavuneshil.proofs.pavuneshil_read_plan.Goals as goal

pub returns : goal.returns
returns c = let p = c.read_plan.ensures in record {
  answer_after = c.numbers.ensures ∙ ap four p.value;
  out_after = p.out_after;
}
