-- `step_loads::by_flow` meets its contract: the flows are added up one by one.
use Prim.Native.Nat.{◌*◌, ◌≤◌, ◌<◌}
use mathlib.Core.Path.{◌≡◌, sym, ◌∙◌}
use lib.Dec.{lit≤}
use native.Mathlib.Omega.{arith}
use Rattle.model.specs.Limits.{most_amount, most_steps, most_tunnels, most_flows}
use Rattle.model.specs.Rule.{worst}
use Rattle.model.proofs.Gathered.{counts-by-flow}
use Rattle.model.proofs.Movers.{movers-flows}
use Rattle.lists.specs.Lists.{network_of, plan_of}
use Rattle.step_loads.proofs.Adding.{summed-none, summed-fits, protected-fits, summed-more, summed-all, flow-worst, flow-small}
use Rattle.step_loads.proofs.by_flow.Goals as goal
use Rattle.step_loads.proofs.by_flow.Goals.{After-max-worst}

-- in a turn
module _ (c : After-max-worst) where
  few : c.loop-f.f < most_flows
  few = omega (arith, c.flows-f-end.ensures.most)

  small : c.max-worst.result ≤ most_tunnels * (most_amount * most_steps)
  small = flow-small _ _ c.network-network.ensures.checkable _ _ c.requires.1 c.requires.0 _ _ c.flow_sums-befores.ensures c.flow_sums-afters.ensures _ _ few c.max-worst.ensures

  here : c.max-worst.result ≡ worst 1 (network_of c.args.pair.now.network) (plan_of c.args.pair.now.plan) c.args.i c.args.l c.loop-f.f
  here = flow-worst _ _ c.network-network.ensures.checkable _ _ c.requires.1 c.requires.0 _ _ c.flow_sums-befores.ensures c.flow_sums-afters.ensures _ _ few c.max-worst.ensures

pub loop-f-init : goal.loop-f-init
loop-f-init c = summed-none _ _ _ _ _

pub overflow_add-all : goal.overflow_add-all
overflow_add-all c = let a = (goal.at.overflow_add-all c).After-max-worst in
    record { fits = summed-fits _ _ _ _ _ _ _ _ _ 0 c.loop-f.invariant (small a) most_flows (few a) (lit≤ tt) }

pub overflow_add-protected : goal.overflow_add-protected
overflow_add-protected c = let a = (goal.at.overflow_add-protected c).After-max-worst in
    let e = rw c.network-network.ensures.value at c.if_protected-protected.ensures in
    record { fits = protected-fits _ _ _ _ _ _ _ _ _ _ c.loop-f.invariant (small a) _ (counts-by-flow _ c.requires.0 _) e most_flows (few a) (lit≤ tt) }

pub loop-f-preserved : goal.loop-f-preserved
loop-f-preserved c = let a = (goal.at.loop-f-preserved c).After-max-worst in
    let e = rw c.network-network.ensures.value at c.if_protected-protected.ensures in
    summed-more _ _ _ _ _ _ _ _ _ _ c.loop-f.invariant (small a) _ (counts-by-flow _ c.requires.0 _) e (here a)

pub returns : goal.returns
returns c =
    let n = rw c.network-network.ensures.value at c.flows-f-end.ensures.value in
    let e : c.loop-f.f ≡ (network_of c.args.pair.now.network).flows = omega (arith, n) in
    summed-all _ _ _ _ _ _ _ _ (e ∙ sym (movers-flows _ c.requires.0)) c.loop-f.invariant
