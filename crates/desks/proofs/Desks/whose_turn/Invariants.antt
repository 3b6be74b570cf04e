-- `desks::Desks::whose_turn` meets its contract: of the desks that come before the k-th in the round none has work. Assumes nothing.
use mathlib.Core.Path.{◌≡◌}
use mathlib.Core.Option.{none}
use Rattle.model.specs.Search.{first}
use Rattle.desks.specs.State.{work_at}
use Rattle.desks.specs.Seen.{seen}
use Rattle.desks.proofs.Desks.whose_turn.Given as goal

abbrev pub invariant-loop-k : goal.invariant-loop-k
invariant-loop-k l = first l.k (work_at (seen l.self)) ≡ none
