-- `judges::sums::first_missed` meets its contract.
use Prim.Native.Nat.{ℕ, ◌≤◌, ◌<◌, ◌+◌, ◌*◌, ◌^◌}
use mathlib.Core.Path.{◌≡◌, sym, ap, ap₂, ◌∙◌}
use mathlib.Core.List.{List}
use lib.ListN.{get_or}
use Rattle.model.specs.Net.{Net}
use Rattle.model.specs.Limits.{most_flows, most_amount}
use Rattle.model.specs.Rule.{flow_sum, missed_rate}
use Rattle.model.proofs.Searches.{first-zero, first_on, first-at}
use Rattle.lists.specs.Lists.{at, next_in, network_sizes, network_of}
use Rattle.lists.specs.Good.{NetworkRanges}
use Rattle.lists.specs.declared.Network as counts
use Rattle.lists.proofs.Positions.{FlowPlace, NextPlace, flow-place, next_place, limited}
use Rattle.judges.specs.Sums.{missed_of}
use Rattle.judges.proofs.Gathering.{gathered-all, sum-small, pair-sum, pair-met, pair-missed}
use native.Mathlib.Omega.{arith}
use Rattle.judges.proofs.sums.first_missed.Goals as goal
use Rattle.judges.proofs.sums.first_missed.Goals.{After-flow_at-at}

-- in a turn: the flow's place, its rate, its next and its sums
module _ (c : After-flow_at-at) where
  abbrev list : List ℕ
  list = c.args.list.now

  abbrev N : Net
  N = network_of list

  abbrev f : ℕ
  f = c.loop-f.f

  abbrev ranges : NetworkRanges list
  ranges = c.requires.network_ranges.0

  place : FlowPlace list f c.flow_at-at.result
  place = flow-place list ranges.sized _ c.requires.network_ranges.1 f _ c.loop-f-test.true c.flow_at-at.ensures

  further : NextPlace list f c.flow_at-at.result
  further = next_place list ranges.sized _ c.requires.network_ranges.1 f _ c.loop-f-test.true c.flow_at-at.ensures

  rate-at : get_or list (c.flow_at-at.result + 1) 0 ≡ N.rate f
  unfolding network_of
  rate-at = ap (λ (i : ℕ). at list (i + 1)) place.here

  next-in : c.args.last ≡ next_in (network_sizes list).edition
  next-in = c.requires.network_ranges.2 ∙ ap (λ (n : counts.Network). next_in n.edition) c.requires.network_ranges.1

  next-at : get_or list (c.flow_at-at.result + c.args.last) 0 ≡ N.next f
  unfolding network_of
  next-at = ap₂ (λ (i j : ℕ). at list (i + j)) place.here next-in

  rate-low : N.rate f ≤ most_amount
  unfolding network_of
  rate-low = ranges.flows.rate f place.there

  there : f < N.flows
  unfolding network_of
  there = place.there

  low : f < most_flows
  low = omega (arith, place.there, ranges.sized.counts)

  old-small : flow_sum N N.old f < 2 ^ 32
  unfolding network_of
  old-small = sum-small N N.old f ranges.sized.counts.tunnels ranges.tunnels.old

  sums_at : get_or c.args.sums.now f 0 ≡ flow_sum N N.old f + flow_sum N N.new f * 2 ^ 32
  sums_at = gathered-all _ _ _ f c.requires.gathered low ∙ pair-sum N f

pub loop-f-init : goal.loop-f-init
loop-f-init c = first-zero _

pub flow_at-at-requires : goal.flow_at-at-requires
flow_at-at-requires c = (limited _ c.requires.network_ranges.0.sized _ c.requires.network_ranges.1, omega (arith, c.loop-f-test.true))

pub overflow_add-rate : goal.overflow_add-rate
overflow_add-rate c = omega (arith, (place c).few)

pub offset_bounds-list-at : goal.offset_bounds-list-at
offset_bounds-list-at c = omega (arith, (place c).few)

pub bounds-list-at : goal.bounds-list-at
bounds-list-at c = omega (arith, (place ((goal.at.bounds-list-at c).After-flow_at-at)).within)

pub overflow_add-next : goal.overflow_add-next
overflow_add-next c = omega (arith, next-in ((goal.at.overflow_add-next c).After-flow_at-at), (further ((goal.at.overflow_add-next c).After-flow_at-at)).few)

pub offset_bounds-list-at-in-loop-f : goal.offset_bounds-list-at-in-loop-f
offset_bounds-list-at-in-loop-f c = omega (arith, next-in ((goal.at.offset_bounds-list-at-in-loop-f c).After-flow_at-at), (further ((goal.at.offset_bounds-list-at-in-loop-f c).After-flow_at-at)).few)

pub bounds-list-at-in-loop-f : goal.bounds-list-at-in-loop-f
bounds-list-at-in-loop-f c = omega (arith, next-in ((goal.at.bounds-list-at-in-loop-f c).After-flow_at-at), (further ((goal.at.bounds-list-at-in-loop-f c).After-flow_at-at)).within)

pub loop-f-preserved : goal.loop-f-preserved
loop-f-preserved c =
    let t = (goal.at.loop-f-preserved c).After-flow_at-at in
    first_on _ c.loop-f.f c.loop-f.invariant (pair-met (N t) c.loop-f.f _ _ _ (sums_at t) (old-small t) (rate-at t) (next-at t) (omega (arith, rate-at t, rate-low t)) c.if-sum-rate.false)

pub returns-then-sum-rate : goal.returns-then-sum-rate
unfolding missed_rate
returns-then-sum-rate c =
    let t = (goal.at.returns-then-sum-rate c).After-flow_at-at in
    sym (ap missed_of (first-at _ (f t) (N t).flows _ c.loop-f.invariant (pair-missed (N t) (f t) _ _ _ (sums_at t) (old-small t) (rate-at t) (next-at t) _ c.if-sum-rate.true c.missed.ensures) (there t)))

pub returns : goal.returns
unfolding network_of missed_rate
returns c =
    let e : c.loop-f.f ≡ (network_sizes c.args.list.now).flows = omega (arith, c.loop-f-test.false, c.loop-f.auto.f-end, ap (λ (n : counts.Network). n.flows) c.requires.network_ranges.1) in
    sym (ap missed_of (rw e at c.loop-f.invariant))
