-- `link_sums::by_flow::add_sums` meets its contract: the links below one have the flow's sums added, and what is left of the set falls.
use Rattle.model.proofs.Sets.{Passing}
use Rattle.link_sums.specs.Tables.{SumsAdded}
use Rattle.link_sums.proofs.by_flow.add_sums.Given as goal

abbrev pub invariant-loop-set : goal.invariant-loop-set
invariant-loop-set l = Passing (λ c s. SumsAdded c l.sums l.initial.table s) l.crossed l.set l.table

abbrev pub decreases-loop-set : goal.decreases-loop-set
decreases-loop-set l = l.set
