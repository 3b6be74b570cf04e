-- `link_sums::chains::Chains::of` meets its contract: the tunnels passed are chained.
use Prim.Native.Nat.{ℕ}
use mathlib.Core.Path.{◌≡◌, refl, subst}
use native.Mathlib.Omega.{arith}
use Rattle.lists.specs.Lists.{network_of}
use Rattle.link_sums.specs.Tables.{Chained}
use Rattle.link_sums.proofs.Flows.{chains-none, chains-more}
use Rattle.link_sums.proofs.chains.Chains.of.Goals as goal

pub loop-t-init : goal.loop-t-init
loop-t-init c = chains-none _ _ _ refl refl

pub loop-t-preserved : goal.loop-t-preserved
loop-t-preserved c = chains-more _ _ _ _ _ c.flow-flow.ensures.value (omega (arith, c.loop-t-test.true, c.tunnels-t-end.ensures.most)) c.flow-flow.ensures.bound.1 c.loop-t.invariant

pub invariant_of-result : goal.invariant_of-result
invariant_of-result c =
    let e : c.loop-t.t ≡ (network_of c.args.network.now).tunnels = omega (arith, c.loop-t.auto, c.loop-t-test.false, c.tunnels-t-end.ensures.value) in
    (c.tunnels-t-end.ensures.good, subst (λ (n : ℕ). Chained (network_of c.args.network.now) n c.loop-t.lasts c.loop-t.priors) e c.loop-t.invariant)
