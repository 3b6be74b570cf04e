-- `loads::flows::FlowChains::of` meets its contract.
use Rattle.lists.specs.Lists.{network_of}
use Rattle.loads.specs.Flows.{Chains}
use Rattle.loads.proofs.flows.FlowChains.of.Given as goal

abbrev pub invariant-loop-t : goal.invariant-loop-t
invariant-loop-t l = Chains (network_of l.network).flow l.t l.last l.prior
