-- `step_loads::by_tunnel` meets its contract: the tunnels are added up one by one.
use Prim.Native.Nat.{ℕ}
use mathlib.Core.Path.{◌≡◌, ap, sym, ◌∙◌}
use lib.Dec.{leb}
use native.Mathlib.Omega.{arith}
use Rattle.model.proofs.Gathered.{counts-by-tunnel}
use Rattle.model.proofs.Movers.{movers-tunnels}
use Rattle.lists.specs.Lists.{network_of}
use Rattle.step_loads.proofs.Adding.{summed-none, summed-more, summed-all, tunnel-worst}
use Rattle.step_loads.proofs.by_tunnel.Goals as goal

pub loop-t-init : goal.loop-t-init
loop-t-init c = summed-none _ _ _ _ _

pub loop-t-preserved : goal.loop-t-preserved
loop-t-preserved c =
    let N = network_of c.args.pair.now.network in
    let f = rw c.network-network.ensures.value at c.flow.ensures.value in
    let e = rw c.network-network.ensures.value at c.if_protected-protected.ensures in
    -- whether its class is protected
    let class = counts-by-tunnel N c.requires.0 c.loop-t.t ∙ ap (λ (k : ℕ). leb (N.class k) 1) (sym f) in
    summed-more _ _ _ _ _ _ _ _ _ _ c.loop-t.invariant c.worst_across-worst.ensures.1 _ class e (tunnel-worst _ _ c.network-network.ensures.checkable _ _ c.requires.1 c.requires.0 _ _ c.worst_across-worst.ensures.0)

pub returns : goal.returns
returns c =
    let n = rw c.network-network.ensures.value at c.tunnels-t-end.ensures.value in
    let e : c.loop-t.t ≡ (network_of c.args.pair.now.network).tunnels = omega (arith, n) in
    summed-all _ _ _ _ _ _ _ _ (e ∙ sym (movers-tunnels _ c.requires.0)) c.loop-t.invariant
