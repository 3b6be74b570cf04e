-- `judges::ranges::flows_in` meets its contract.
use Prim.Native.Nat.{ℕ, ◌+◌}
use mathlib.Core.Path.{◌≡◌, ap, ap₂, ◌∙◌}
use mathlib.Core.List.{List}
use Rattle.lists.specs.Lists.{at, next_in, network_sizes, flow_at}
use Rattle.lists.specs.declared.Network as counts
use Rattle.lists.proofs.Positions.{FlowPlace, NextPlace, flow-place, next_place, limited}
use Rattle.judges.proofs.InRange.{flows-more, decides-yes, decides-no}
use native.Mathlib.Omega.{arith}
use Rattle.judges.proofs.ranges.flows_in.Goals as goal
use Rattle.judges.proofs.ranges.flows_in.Goals.{After-flow_at-at}

-- what is read in a turn: the class, the rate and the next
module _ (c : After-flow_at-at) where
  abbrev list : List ℕ
  list = c.args.list.now

  abbrev f : ℕ
  f = c.loop-f.f

  place : FlowPlace list f c.flow_at-at.result
  place = flow-place list c.requires.0 _ c.requires.1 _ _ c.loop-f-test.true c.flow_at-at.ensures

  further : NextPlace list f c.flow_at-at.result
  further = next_place list c.requires.0 _ c.requires.1 _ _ c.loop-f-test.true c.flow_at-at.ensures

  class-at : at list c.flow_at-at.result ≡ at list (flow_at (network_sizes list) f)
  class-at = ap (at list) place.here

  rate-at : at list (c.flow_at-at.result + 1) ≡ at list (flow_at (network_sizes list) f + 1)
  rate-at = ap (λ (i : ℕ). at list (i + 1)) place.here

  next-in : c.next-next.result ≡ next_in (network_sizes list).edition
  next-in = c.next-next.ensures ∙ ap (λ (n : counts.Network). next_in n.edition) c.requires.1

  next-at : at list (c.flow_at-at.result + c.next-next.result) ≡ at list (flow_at (network_sizes list) f + next_in (network_sizes list).edition)
  next-at = ap₂ (λ (i j : ℕ). at list (i + j)) place.here next-in

pub flow_at-at-requires : goal.flow_at-at-requires
flow_at-at-requires c = (limited _ c.requires.0 _ c.requires.1, omega (arith, c.loop-f-test.true))

pub offset_bounds-list-at : goal.offset_bounds-list-at
offset_bounds-list-at c = omega (arith, (place c).few)

pub bounds-list-at : goal.bounds-list-at
bounds-list-at c = omega (arith, (place ((goal.at.bounds-list-at c).After-flow_at-at)).within)

pub returns-then-list-at-gt2 : goal.returns-then-list-at-gt2
returns-then-list-at-gt2 c = decides-no (λ a. absurd (omega (arith, class-at ((goal.at.returns-then-list-at-gt2 c).After-flow_at-at), a.class _ c.loop-f-test.true, c.if-list-at-gt2.true)))

pub overflow_add-at : goal.overflow_add-at
overflow_add-at c = omega (arith, (place ((goal.at.overflow_add-at c).After-flow_at-at)).few)

pub offset_bounds-list-at-in-loop-f : goal.offset_bounds-list-at-in-loop-f
offset_bounds-list-at-in-loop-f c = omega (arith, (place ((goal.at.offset_bounds-list-at-in-loop-f c).After-flow_at-at)).few)

pub bounds-list-at-in-loop-f : goal.bounds-list-at-in-loop-f
bounds-list-at-in-loop-f c = omega (arith, (place ((goal.at.bounds-list-at-in-loop-f c).After-flow_at-at)).within)

pub returns-then-list-at-gt-AMOUNT : goal.returns-then-list-at-gt-AMOUNT
returns-then-list-at-gt-AMOUNT c = decides-no (λ a. absurd (omega (arith, rate-at ((goal.at.returns-then-list-at-gt-AMOUNT c).After-flow_at-at), a.rate _ c.loop-f-test.true, c.if-list-at-gt-AMOUNT.true)))

pub overflow_add-at-in-loop-f : goal.overflow_add-at-in-loop-f
overflow_add-at-in-loop-f c = omega (arith, next-in ((goal.at.overflow_add-at-in-loop-f c).After-flow_at-at), (further ((goal.at.overflow_add-at-in-loop-f c).After-flow_at-at)).few)

pub offset_bounds-list-at-in-loop-f-2 : goal.offset_bounds-list-at-in-loop-f-2
offset_bounds-list-at-in-loop-f-2 c = omega (arith, next-in ((goal.at.offset_bounds-list-at-in-loop-f-2 c).After-flow_at-at), (further ((goal.at.offset_bounds-list-at-in-loop-f-2 c).After-flow_at-at)).few)

pub bounds-list-at-in-loop-f-2 : goal.bounds-list-at-in-loop-f-2
bounds-list-at-in-loop-f-2 c = omega (arith, next-in ((goal.at.bounds-list-at-in-loop-f-2 c).After-flow_at-at), (further ((goal.at.bounds-list-at-in-loop-f-2 c).After-flow_at-at)).within)

pub returns-then-list-at-gt-AMOUNT-2 : goal.returns-then-list-at-gt-AMOUNT-2
returns-then-list-at-gt-AMOUNT-2 c = decides-no (λ a. absurd (omega (arith, next-at ((goal.at.returns-then-list-at-gt-AMOUNT-2 c).After-flow_at-at), a.next _ c.loop-f-test.true, c.if-list-at-gt-AMOUNT-2.true)))

pub loop-f-preserved : goal.loop-f-preserved
loop-f-preserved c = (flows-more _ _ c.loop-f.invariant (omega (arith, class-at ((goal.at.loop-f-preserved c).After-flow_at-at), c.if-list-at-gt2.false)) (omega (arith, rate-at ((goal.at.loop-f-preserved c).After-flow_at-at), c.if-list-at-gt-AMOUNT.false)) (omega (arith, next-at ((goal.at.loop-f-preserved c).After-flow_at-at), c.if-list-at-gt-AMOUNT-2.false))
    )

pub returns : goal.returns
returns c = let e : c.loop-f.f ≡ c.args.sizes.flows = omega (arith, c.loop-f.auto.f-end) in decides-yes (rw (← e) c.loop-f.invariant)
