-- `link_sums::table::add_tunnel` meets its contract: the links below one are passed, and what is left of the set falls.
use Rattle.model.proofs.Sets.{Passing}
use Rattle.link_sums.specs.Tables.{Added}
use Rattle.link_sums.proofs.table.add_tunnel.Given as goal

abbrev pub invariant-loop-set : goal.invariant-loop-set
invariant-loop-set l = Passing (λ c s. Added c l.old l.new l.initial.table s) l.via l.set l.table

abbrev pub decreases-loop-set : goal.decreases-loop-set
decreases-loop-set l = l.set
