-- `checker::sums::row_sums` meets its contract.
use mathlib.Core.Path.{refl}
use native.Mathlib.Omega.{arith}
use Rattle.judges.proofs.Gathering.{gathered_none}
use Rattle.amounts.proofs.Good.{row_small}
use Rattle.checker.proofs.Totals.{added, added-fits}
use Rattle.checker.proofs.sums.row_sums.Goals as goal

pub loop-t-init : goal.loop-t-init
loop-t-init c = gathered_none _ _ _ refl

pub overflow_add-sums : goal.overflow_add-sums
overflow_add-sums c =
    let n = rw c.network-network.ensures.value at c.tunnels-t-end.ensures.count in
    let k = c.network-network.ensures.checkable in
    let f = rw c.network-network.ensures.value at c.flow.ensures.value in
    record { fits = added-fits _ _ _ _ _ _ f c.flow.ensures.bound.1 c.amount.ensures.value c.loop-t.invariant (omega (arith, n, k.network.ranges.sized.counts)) (λ u h. row_small _ _ k _ u c.requires (omega (arith, n))) }

pub loop-t-preserved : goal.loop-t-preserved
loop-t-preserved c =
    let f = rw c.network-network.ensures.value at c.flow.ensures.value in
    added _ _ _ _ _ _ f c.flow.ensures.bound.1 c.amount.ensures.value c.loop-t.invariant
