-- `step_loads::by_tunnel` meets its contract: the tunnels are added up one by one.
use Prim.Native.Nat.{◌*◌}
use Rattle.model.specs.Limits.{most_amount, most_steps}
use Rattle.lists.specs.Lists.{network_of, plan_of}
use Rattle.step_loads.specs.Inner.{Summed}
use Rattle.step_loads.proofs.by_tunnel.Given as goal

abbrev pub invariant-loop-t : goal.invariant-loop-t
invariant-loop-t l = Summed (network_of l.pair.network) (plan_of l.pair.plan) l.i l.l (most_amount * most_steps) l.t l.protected l.all
