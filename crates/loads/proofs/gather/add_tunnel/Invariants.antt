-- `loads::gather::add_tunnel` meets its contract: the links below one are passed, and what is left of the set falls.
use Rattle.model.proofs.Sets.{Passing}
use Rattle.lists.specs.Lists.{at}
use Rattle.loads.specs.Tables.{number_at, AddedOn}
use Rattle.loads.proofs.gather.add_tunnel.Given as goal

abbrev pub invariant-loop-set : goal.invariant-loop-set
invariant-loop-set l = Passing (λ c s. AddedOn l.links c (λ _ k. at l.amounts (number_at l.t k)) l.times l.on l.initial.to s) l.via l.set l.to

abbrev pub decreases-loop-set : goal.decreases-loop-set
decreases-loop-set l = l.set
