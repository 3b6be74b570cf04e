-- `judges::ranges::tunnels_in` meets its contract.
use Prim.Native.Nat.{ℕ, ◌+◌}
use mathlib.Core.Path.{◌≡◌, sym, ap, ◌∙◌, subst⁻¹}
use lib.Dec.{T}
use Rattle.lists.specs.Lists.{at}
use Rattle.lists.specs.declared.Network as counts
use Rattle.lists.proofs.Positions.{TunnelPlace, tunnel-place, limited}
use Rattle.judges.proofs.InRange.{tunnels-more, via-at, at-via, decides-yes, decides-no, untrue}
use native.Mathlib.Omega.{arith}
use Rattle.judges.proofs.ranges.tunnels_in.Goals as goal
use Rattle.judges.proofs.ranges.tunnels_in.Goals.{After-tunnel_at-at}

-- what is read in a turn
here : (c : After-tunnel_at-at) → TunnelPlace c.args.list.now c.loop-t.t c.tunnel_at-at.result
here c = tunnel-place _ c.requires.0 _ c.requires.1 _ _ c.loop-t-test.true c.tunnel_at-at.ensures

pub tunnel_at-at-requires : goal.tunnel_at-at-requires
tunnel_at-at-requires c = (limited _ c.requires.0 _ c.requires.1, omega (arith, c.loop-t-test.true))

pub offset_bounds-list-at : goal.offset_bounds-list-at
offset_bounds-list-at c = omega (arith, (here c).few)

pub bounds-list-at : goal.bounds-list-at
bounds-list-at c = omega (arith, (here ((goal.at.bounds-list-at c).After-tunnel_at-at)).within)

pub returns-then-sizes-flow : goal.returns-then-sizes-flow
returns-then-sizes-flow c = let p = here ((goal.at.returns-then-sizes-flow c).After-tunnel_at-at) in decides-no (λ a. absurd (omega (arith, ap (at c.args.list.now) p.here, ap (λ (n : counts.Network). n.flows) c.requires.1, a.flow _ c.loop-t-test.true, c.if-sizes-flow.true)))

pub overflow_add-at : goal.overflow_add-at
overflow_add-at c = omega (arith, (here ((goal.at.overflow_add-at c).After-tunnel_at-at)).few)

pub offset_bounds-list-at-in-loop-t : goal.offset_bounds-list-at-in-loop-t
offset_bounds-list-at-in-loop-t c = omega (arith, (here ((goal.at.offset_bounds-list-at-in-loop-t c).After-tunnel_at-at)).few)

pub bounds-list-at-in-loop-t : goal.bounds-list-at-in-loop-t
bounds-list-at-in-loop-t c = omega (arith, (here ((goal.at.bounds-list-at-in-loop-t c).After-tunnel_at-at)).within)

pub returns-then-not-is_set : goal.returns-then-not-is_set
returns-then-not-is_set c = let p = here ((goal.at.returns-then-not-is_set c).After-tunnel_at-at) in
    decides-no (λ a. untrue _ (sym c.is_set.ensures ∙ c.if-not-is_set.true) (via-at _ _ c.requires.1 _ _ p.here (a.via _ c.loop-t-test.true)))

pub bounds-list-at-in-loop-t-2 : goal.bounds-list-at-in-loop-t-2
bounds-list-at-in-loop-t-2 c = omega (arith, (here ((goal.at.bounds-list-at-in-loop-t-2 c).After-tunnel_at-at)).within)

pub returns-then-list-at-gt-AMOUNT : goal.returns-then-list-at-gt-AMOUNT
returns-then-list-at-gt-AMOUNT c = let p = here ((goal.at.returns-then-list-at-gt-AMOUNT c).After-tunnel_at-at) in decides-no (λ a. absurd (omega (arith, ap (λ (i : ℕ). at c.args.list.now (i + 2)) p.here, a.old _ c.loop-t-test.true, c.if-list-at-gt-AMOUNT.true)))

pub bounds-list-at-in-loop-t-3 : goal.bounds-list-at-in-loop-t-3
bounds-list-at-in-loop-t-3 c = omega (arith, (here ((goal.at.bounds-list-at-in-loop-t-3 c).After-tunnel_at-at)).within)

pub returns-then-list-at-gt-AMOUNT-2 : goal.returns-then-list-at-gt-AMOUNT-2
returns-then-list-at-gt-AMOUNT-2 c = let p = here ((goal.at.returns-then-list-at-gt-AMOUNT-2 c).After-tunnel_at-at) in decides-no (λ a. absurd (omega (arith, ap (λ (i : ℕ). at c.args.list.now (i + 3)) p.here, a.new _ c.loop-t-test.true, c.if-list-at-gt-AMOUNT-2.true)))

pub loop-t-preserved : goal.loop-t-preserved
loop-t-preserved c = let p = here ((goal.at.loop-t-preserved c).After-tunnel_at-at) in (tunnels-more _ _ c.loop-t.invariant
    (omega (arith, ap (at c.args.list.now) p.here, ap (λ (n : counts.Network). n.flows) c.requires.1, c.if-sizes-flow.false))
    (at-via _ _ c.requires.1 _ _ p.here (subst⁻¹ T (sym c.is_set.ensures ∙ c.if-not-is_set.false) tt))
    (omega (arith, ap (λ (i : ℕ). at c.args.list.now (i + 2)) p.here, c.if-list-at-gt-AMOUNT.false))
    (omega (arith, ap (λ (i : ℕ). at c.args.list.now (i + 3)) p.here, c.if-list-at-gt-AMOUNT-2.false))
    )

pub returns : goal.returns
returns c = let e : c.loop-t.t ≡ c.args.sizes.tunnels = omega (arith, c.loop-t.auto.t-end) in decides-yes (rw (← e) c.loop-t.invariant)
