-- `link_sums::by_flow::sum_flow` meets its contract: what is added, with what the rest of the chain has, is the flow's sum.
use Prim.Native.Nat.{◌<◌}
use mathlib.Core.Path.{ap}
use native.Mathlib.Omega.{arith}
use Rattle.lists.specs.Lists.{network_sizes}
use Rattle.link_sums.specs.Tables.{up_to}
use Rattle.link_sums.proofs.Tables.{good-range}
use Rattle.link_sums.proofs.Flows.{left-start, left_end, left-room, outside-start, outside-on, turn-there, turn-on}
use Rattle.link_sums.proofs.by_flow.sum_flow.Goals as goal
use Rattle.link_sums.proofs.by_flow.sum_flow.Goals.{In-Some}

there : (c : In-Some) → c.in-Some.t < (network_sizes c.network-network.result.now).tunnels
there c = turn-there _ _ c.network-network.ensures.value _ _ _ c.in-Some.is _ c.loop-entry.invariant.left

pub last-entry-requires : goal.last-entry-requires
last-entry-requires c = omega (arith, c.requires.flow, c.network-network.ensures.good.ranges.sized.counts.flows)

pub loop-entry-init : goal.loop-entry-init
loop-entry-init c = record { left = left-start _ _ _ _ c.requires.none c.last-entry.ensures; outside = outside-start _ c.requires.none }

pub via-via-requires : goal.via-via-requires
via-via-requires c = there c

pub old-old-requires : goal.old-old-requires
old-old-requires c = there ((goal.at.old-old-requires c).In-Some)

pub new_amount-new-requires : goal.new_amount-new-requires
new_amount-new-requires c = there ((goal.at.new_amount-new-requires c).In-Some)

pub add_across-requires : goal.add_across-requires
add_across-requires c = (left-room _ _ (good-range _ c.network-network.ensures.good) _ _ c.loop-entry.invariant.left, omega (arith, c.old-old.ensures.most, c.new_amount-new.ensures.most), omega (arith, c.old-old.ensures.most, c.new_amount-new.ensures.most))

pub prior-entry-requires : goal.prior-entry-requires
prior-entry-requires c = let k = there ((goal.at.prior-entry-requires c).In-Some) in
    let e = ap (λ m. (network_sizes m).tunnels) c.network-network.ensures.value in
    (omega (arith, k, e), omega (arith, k, e, c.network-network.ensures.good.ranges.sized.counts.tunnels))

pub loop-entry-smaller : goal.loop-entry-smaller
loop-entry-smaller c = omega (arith, ap up_to c.in-Some.is, c.prior-entry.ensures.low)

pub loop-entry-preserved : goal.loop-entry-preserved
loop-entry-preserved c =
    let i = c.loop-entry.invariant in
    record {
      left = turn-on _ _ c.network-network.ensures.value _ _ _ c.in-Some.is _ i.left _ _ _ _ _ c.via-via.ensures.value c.old-old.ensures.value c.new_amount-new.ensures.value c.add_across.ensures c.prior-entry.ensures;
      outside = outside-on _ _ _ _ _ _ i.outside c.add_across.ensures;
    }

pub returns-clause-sums : goal.returns-clause-sums
returns-clause-sums c = left_end _ _ _ _ c.in_default.is c.loop-entry.invariant.left

pub returns-clause-room : goal.returns-clause-room
returns-clause-room c = left-room _ _ (good-range _ c.network-network.ensures.good) _ _ c.loop-entry.invariant.left
