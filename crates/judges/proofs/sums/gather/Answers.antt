-- `judges::sums::gather` meets its contract.
use Prim.Native.Nat.{ℕ, ◌≤◌, ◌<◌, ◌+◌, ◌*◌, ◌^◌}
use mathlib.Core.Path.{◌≡◌, ap}
use mathlib.Core.List.{List}
use native.Mathlib.Nat.{lt_of_lt_of_le}
use lib.ListN.{get_or}
use Rattle.model.specs.Limits.{most_flows, most_amount}
use Rattle.model.specs.Net.{Net}
use Rattle.lists.specs.Lists.{at, network_sizes, network_of}
use Rattle.lists.specs.Good.{NetworkRanges}
use Rattle.lists.specs.declared.Network as counts
use Rattle.lists.proofs.Positions.{TunnelPlace, tunnel-place, limited}
use Rattle.judges.specs.Sums.{pair_of}
use Rattle.judges.proofs.Gathering.{gathered_none, gathered-more, gathered-fits}
use native.Mathlib.Omega.{arith}
use Rattle.judges.proofs.sums.gather.Goals as goal
use Rattle.judges.proofs.sums.gather.Goals.{After-tunnel_at-at}

-- in a turn: the tunnel's place, its flow and its amounts, and that the sum fits
module _ (c : After-tunnel_at-at) where
  abbrev list : List ℕ
  list = c.args.list.now

  abbrev N : Net
  N = network_of list

  abbrev t : ℕ
  t = c.loop-t.t

  abbrev ranges : NetworkRanges list
  ranges = c.requires.0

  place : TunnelPlace list t c.tunnel_at-at.result
  place = tunnel-place list ranges.sized _ c.requires.1 t _ c.loop-t-test.true c.tunnel_at-at.ensures

  flow-at : get_or list c.tunnel_at-at.result 0 ≡ N.flow t
  unfolding network_of
  flow-at = ap (at list) place.here

  flow-low : N.flow t < most_flows
  unfolding network_of
  flow-low = lt_of_lt_of_le (ranges.tunnels.flow t place.there) ranges.sized.counts.flows

  pair-at : get_or list (c.tunnel_at-at.result + 2) 0 + get_or list (c.tunnel_at-at.result + 3) 0 * 2 ^ 32 ≡ pair_of N t
  unfolding network_of pair_of
  pair-at = ap (λ (i : ℕ). at list (i + 2) + at list (i + 3) * 2 ^ 32) place.here

  pair_small : (u : ℕ) → u < t + 1 → pair_of N u ≤ most_amount + most_amount * 2 ^ 32
  unfolding network_of pair_of
  pair_small u k = omega (arith, ranges.tunnels.old u (omega (arith, place.there)), ranges.tunnels.new u (omega (arith, place.there)))

  sum_fits : get_or c.loop-t.sums (N.flow t) 0 + pair_of N t < 2 ^ 64
  sum_fits = gathered-fits N (pair_of N) (most_amount + most_amount * 2 ^ 32) t _ _ (omega arith) c.loop-t.invariant flow-low (omega (arith, place.there, ranges.sized.counts)) pair_small

  fits : get_or c.loop-t.sums (get_or list c.tunnel_at-at.result 0) 0 + (get_or list (c.tunnel_at-at.result + 2) 0 + get_or list (c.tunnel_at-at.result + 3) 0 * 2 ^ 32) < 2 ^ 64
  fits = rw (flow-at, pair-at) sum_fits

pub loop-t-init : goal.loop-t-init
loop-t-init c = (gathered_none _ _ _ c.requires.2)

pub tunnel_at-at-requires : goal.tunnel_at-at-requires
tunnel_at-at-requires c = (limited _ c.requires.0.sized _ c.requires.1, omega (arith, c.loop-t-test.true))

pub bounds-list-at-in-loop-t : goal.bounds-list-at-in-loop-t
bounds-list-at-in-loop-t c = omega (arith, (place ((goal.at.bounds-list-at-in-loop-t c).After-tunnel_at-at)).within)

pub bounds-list-at-in-loop-t-2 : goal.bounds-list-at-in-loop-t-2
bounds-list-at-in-loop-t-2 c = omega (arith, (place ((goal.at.bounds-list-at-in-loop-t-2 c).After-tunnel_at-at)).within)

pub overflow_add-sums-in-loop-t : goal.overflow_add-sums-in-loop-t
overflow_add-sums-in-loop-t c = omega (arith, fits ((goal.at.overflow_add-sums-in-loop-t c).After-tunnel_at-at))

pub loop-t-preserved : goal.loop-t-preserved
loop-t-preserved c = rw (flow-at ((goal.at.loop-t-preserved c).After-tunnel_at-at), pair-at ((goal.at.loop-t-preserved c).After-tunnel_at-at)) (gathered-more _ _ c.loop-t.t _ (flow-low ((goal.at.loop-t-preserved c).After-tunnel_at-at)) c.loop-t.invariant)

pub returns : goal.returns
unfolding network_of
returns c = let e : c.loop-t.t ≡ (network_sizes c.args.list.now).tunnels = omega (arith, c.loop-t.auto.t-end, c.loop-t-test.false, ap (λ (n : counts.Network). n.tunnels) c.requires.1) in
    rw e at c.loop-t.invariant
