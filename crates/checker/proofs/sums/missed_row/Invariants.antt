-- `checker::sums::missed_row` meets its contract.
use mathlib.Core.Path.{◌≡◌}
use mathlib.Core.Option.{none}
use Rattle.model.specs.Search.{first}
use Rattle.model.specs.Rule.{missed_in}
use Rattle.lists.specs.Lists.{network_of, plan_of}
use Rattle.checker.proofs.sums.missed_row.Given as goal

abbrev pub invariant-loop-row : goal.invariant-loop-row
invariant-loop-row l = first l.row (λ b. first (network_of l.pair.network).flows (missed_in (network_of l.pair.network) (plan_of l.pair.plan) b)) ≡ none
