-- `bound::last_step` meets its contract: the constant is a card, by one test over all of its entries, which antt computes.
use mathlib.Core.Path.{refl}
use Rattle.model.specs.Even.{ceil_div}
use Rattle.bound.proofs.Entries.{is-card}
use Rattle.bound.proofs.last_step.Goals as goal

pub entry-requires : goal.entry-requires
unfolding ceil_div
entry-requires c = (is-card _ refl tt, c.requires)
