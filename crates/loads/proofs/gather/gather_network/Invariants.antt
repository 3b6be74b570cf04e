-- `loads::gather::gather_network` meets its contract.
use Rattle.lists.specs.Lists.{network_of}
use Rattle.loads.specs.Tables.{class_of, Loads}
use Rattle.loads.proofs.gather.gather_network.Given as goal

abbrev pub invariant-loop-t : goal.invariant-loop-t
invariant-loop-t l = Loads (network_of l.network).links (network_of l.network).via (class_of (network_of l.network)) l.t l.amounts.numbers l.loads
