-- `checker::marks::Window::mark_tunnels` meets its contract.
use mathlib.Core.Path.{refl}
use lib.ListN.{length-set}
use native.Mathlib.Omega.{arith}
use Rattle.lists.specs.Lists.{network_of, plan_of}
use Rattle.model.proofs.Listed.{listed-none, listed-on, listed-to}
use Rattle.checker.proofs.Marking.{row_in, mark-of-tunnel}
use Rattle.checker.proofs.marks.Window.mark_tunnels.Goals as goal

pub loop-t-init : goal.loop-t-init
loop-t-init c = (refl, listed-none _ _)

pub amount-first-requires-clause-row : goal.amount-first-requires-clause-row
amount-first-requires-clause-row c = omega (arith, row_in _ _ _ _ _ c.args.self.now.there)

pub loop-t-preserved : goal.loop-t-preserved
unfolding plan_of
loop-t-preserved c =
    let s = c.args.self.now in
    let n = rw c.network-network.ensures.value at c.tunnels-t-end.ensures.count in
    let v = rw c.network-network.ensures.value at c.via.ensures.value in
    let m = mark-of-tunnel s.lag (network_of s.pair.now.network) (plan_of s.pair.now.plan) s.row s.link c.loop-t.t _ _ _ _ s.there.step v c.rises.ensures c.requires.0 c.amount-first.ensures.value c.largest_amount-largest.ensures in
    (simp length-set c.loop-t.invariant.0, listed-on _ _ _ _ _ c.loop-t.invariant.1 (omega (arith, n, c.requires.1)) m)

pub returns : goal.returns
returns c = let n = rw c.network-network.ensures.value at c.tunnels-t-end.ensures.count in listed-to _ _ _ _ _ c.loop-t.invariant.1 (omega (arith, n))
