-- `link_sums::by_flow::add_across` meets its contract: the links below one are passed, and what is left of the set falls.
use Rattle.model.proofs.Sets.{Passing}
use Rattle.link_sums.specs.Tables.{FlowAdded}
use Rattle.link_sums.proofs.by_flow.add_across.Given as goal

abbrev pub invariant-loop-set : goal.invariant-loop-set
invariant-loop-set l = Passing (λ c s. FlowAdded c l.old l.new l.initial.sums s) l.via l.set l.sums

abbrev pub decreases-loop-set : goal.decreases-loop-set
decreases-loop-set l = l.set
