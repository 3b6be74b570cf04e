-- `bound::step_bound` meets its contract: the constant is a card, by one test over all of its entries, which antt computes.
use mathlib.Core.Path.{refl}
use Rattle.model.specs.Even.{ceil_div}
use Rattle.bound.proofs.Entries.{is-card}
use Rattle.bound.proofs.step_bound.Goals as goal

pub by_card-requires : goal.by_card-requires
unfolding ceil_div
by_card-requires c = is-card _ refl tt
