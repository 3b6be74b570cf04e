-- `pavuneshil::pavuneshil_share` meets its contract. What `sharing` answers, as four numbers. Assumes nothing.
use mathlib.Core.Path.{ap, ◌∙◌}
use Rattle.pavuneshil.specs.Four.{four}
use Rattle.pavuneshil.proofs.pavuneshil_share.Goals as goal

pub returns : goal.returns
returns c = let p = c.share.ensures in record {
  answer_after = c.numbers.ensures ∙ ap four p.value;
  out_after = p.out_after;
}
