-- `loads::gather::gather` meets its contract.
use Rattle.lists.specs.Lists.{at}
use Rattle.loads.specs.Tables.{Loads}
use Rattle.loads.proofs.gather.gather.Given as goal

abbrev pub invariant-loop-t : goal.invariant-loop-t
invariant-loop-t l = Loads l.links (at l.vias) (at l.classes) l.t l.amounts l.loads
