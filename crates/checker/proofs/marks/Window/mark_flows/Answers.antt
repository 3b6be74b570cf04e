-- `checker::marks::Window::mark_flows` meets its contract.
use mathlib.Core.Path.{refl}
use lib.ListN.{length-set}
use native.Mathlib.Omega.{arith}
use Rattle.lists.specs.Lists.{network_of, plan_of}
use Rattle.model.proofs.Listed.{listed-none, listed-on, listed-to}
use Rattle.checker.proofs.Marking.{row_in, sum_of, sums_first, mark-of-flow}
use Rattle.checker.proofs.marks.Window.mark_flows.Goals as goal

pub flow_sums-first-requires : goal.flow_sums-first-requires
flow_sums-first-requires c = (omega (arith, row_in _ _ _ _ _ c.args.self.now.there), c.args.self.now.there.link)

pub largest_sums-largest-requires : goal.largest_sums-largest-requires
largest_sums-largest-requires c = sums_first _ _ _ _ _ c.flow_sums-first.ensures

pub loop-t-init : goal.loop-t-init
loop-t-init c = (refl, listed-none _ _)

pub loop-t-preserved : goal.loop-t-preserved
unfolding plan_of
loop-t-preserved c =
    let s = c.args.self.now in
    let n = rw c.network-network.ensures.value at c.tunnels-t-end.ensures.count in
    let f = rw c.network-network.ensures.value at c.flow-flow.ensures.value in
    let v = rw c.network-network.ensures.value at c.via.ensures.value in
    let first = sum_of _ _ _ c.loop-t.t _ c.flow_sums-first.ensures f c.flow-flow.ensures.bound.1 in
    let m = mark-of-flow s.lag (network_of s.pair.now.network) (plan_of s.pair.now.plan) s.row s.link c.loop-t.t _ _ _ _ s.there.step v c.rises.ensures c.requires.0 first (rw (← f) (c.largest_sums-largest.ensures.each c.flow-flow.result c.flow-flow.ensures.bound.1)) in
    (simp length-set c.loop-t.invariant.0, listed-on _ _ _ _ _ c.loop-t.invariant.1 (omega (arith, n, c.requires.1)) m)

pub returns : goal.returns
returns c = let n = rw c.network-network.ensures.value at c.tunnels-t-end.ensures.count in listed-to _ _ _ _ _ c.loop-t.invariant.1 (omega (arith, n))
