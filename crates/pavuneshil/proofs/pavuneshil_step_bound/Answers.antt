-- `pavuneshil::pavuneshil_step_bound` meets its contract. What `product` answers, as four numbers. Assumes nothing.
use mathlib.Core.Path.{ap, ◌∙◌}
use Rattle.pavuneshil.specs.Four.{four_of_bound}
use Rattle.pavuneshil.proofs.pavuneshil_step_bound.Goals as goal

pub returns : goal.returns
returns c = c.bound_numbers.ensures ∙ ap four_of_bound c.step_bound.ensures
