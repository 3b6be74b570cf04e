-- `desks::Desks::none_waiting` meets its contract. Assumes nothing.
use mathlib.Core.Path.{refl}
use Rattle.desks.proofs.Queues.{seen-empty}
use Rattle.desks.proofs.Desks.none_waiting.Goals as goal

pub returns : goal.returns
returns c = seen-empty _ refl refl refl
