-- `pavuneshil::pavuneshil_make_plan_at_lag` meets its contract. What `product` answers, as four numbers. Assumes nothing.
use mathlib.Core.Path.{ap, ◌∙◌}
use Rattle.pavuneshil.specs.Four.{four}
use Rattle.pavuneshil.proofs.pavuneshil_make_plan_at_lag.Goals as goal

pub returns : goal.returns
returns c = let p = c.make_plan.ensures in record {
  answer_after = c.numbers.ensures ∙ ap four p.value;
  out_after = p.out_after;
}
