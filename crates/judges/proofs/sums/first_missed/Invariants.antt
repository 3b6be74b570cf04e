-- `judges::sums::first_missed` meets its contract.
use mathlib.Core.Path.{◌≡◌}
use mathlib.Core.Option.{none}
use Rattle.model.specs.Search.{first}
use Rattle.model.specs.Rule.{missed_by}
use Rattle.lists.specs.Lists.{network_of}
use Rattle.judges.proofs.sums.first_missed.Given as goal

abbrev pub invariant-loop-f : goal.invariant-loop-f
invariant-loop-f l = first l.f (missed_by (network_of l.list)) ≡ none
