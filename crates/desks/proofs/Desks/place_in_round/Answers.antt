-- `desks::Desks::place_in_round` meets its contract. Assumes nothing.
use mathlib.Core.Path.{refl}
use Rattle.desks.specs.Round.{place_in_round}
use Rattle.desks.proofs.Desks.place_in_round.Goals as goal

pub returns : goal.returns
unfolding place_in_round
returns c = refl
