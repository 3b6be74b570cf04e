-- `loads::flows::gather_flows` meets its contract.
use Prim.Native.Nat.{◌*◌}
use Rattle.model.specs.Limits.{most_tunnels}
use Rattle.lists.specs.Lists.{network_of}
use Rattle.loads.specs.Tables.{LoadsWithin}
use Rattle.loads.specs.Flows.{FlowLoads}
use Rattle.loads.proofs.flows.gather_flows.Given as goal

abbrev pub invariant-loop-f : goal.invariant-loop-f
invariant-loop-f l = record {
  summed : FlowLoads (network_of l.network).links (network_of l.network).via (network_of l.network).flow (network_of l.network).tunnels (network_of l.network).class l.f l.times l.amounts.numbers l.loads;
  room : LoadsWithin (network_of l.network).links (l.f * most_tunnels) l.loads;
}
