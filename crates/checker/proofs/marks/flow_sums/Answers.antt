-- `checker::marks::flow_sums` meets its contract.
use mathlib.Core.Path.{◌≡◌, refl}
use native.Mathlib.Omega.{arith}
use Rattle.model.specs.Net.{row}
use Rattle.model.specs.Rule.{across}
use Rattle.lists.specs.Lists.{network_of, plan_of}
use Rattle.judges.proofs.Gathering.{gathered_none}
use Rattle.checker.proofs.Totals.{added, added-fits}
use Rattle.checker.proofs.Marking.{across-of, across-small}
use Rattle.checker.proofs.marks.flow_sums.Goals as goal
use Rattle.checker.proofs.marks.flow_sums.Goals.{After-flow}

-- what tunnel t puts on the link
put : (c : After-flow) → c.on_link.result ≡ across (network_of c.args.pair.now.network) c.args.l (row (network_of c.args.pair.now.network) (plan_of c.args.pair.now.plan) c.args.a) c.loop-t.t
put c = across-of _ _ _ _ _ _ _ (rw c.network-network.ensures.value at c.via.ensures.value) c.amount.ensures.value c.on_link.ensures

pub loop-t-init : goal.loop-t-init
loop-t-init c = gathered_none _ _ _ refl

pub overflow_add-sums : goal.overflow_add-sums
overflow_add-sums c =
    let n = rw c.network-network.ensures.value at c.tunnels-t-end.ensures.count in
    let k = c.network-network.ensures.checkable in
    let f = rw c.network-network.ensures.value at c.flow.ensures.value in
    record { fits = added-fits _ _ _ _ _ _ f c.flow.ensures.bound.1 (put ((goal.at.overflow_add-sums c).After-flow)) c.loop-t.invariant (omega (arith, n, k.network.ranges.sized.counts)) (λ u h. across-small _ _ k _ _ u c.requires.0 (omega (arith, n))) }

pub loop-t-preserved : goal.loop-t-preserved
loop-t-preserved c =
    let f = rw c.network-network.ensures.value at c.flow.ensures.value in
    added _ _ _ _ _ _ f c.flow.ensures.bound.1 (put ((goal.at.loop-t-preserved c).After-flow)) c.loop-t.invariant
