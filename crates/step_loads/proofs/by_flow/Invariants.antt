-- `step_loads::by_flow` meets its contract: the flows are added up one by one.
use Prim.Native.Nat.{◌*◌}
use Rattle.model.specs.Limits.{most_amount, most_steps, most_tunnels}
use Rattle.lists.specs.Lists.{network_of, plan_of}
use Rattle.step_loads.specs.Inner.{Summed}
use Rattle.step_loads.proofs.by_flow.Given as goal

abbrev pub invariant-loop-f : goal.invariant-loop-f
invariant-loop-f l = Summed (network_of l.pair.network) (plan_of l.pair.plan) l.i l.l (most_tunnels * (most_amount * most_steps)) l.f l.protected l.all
