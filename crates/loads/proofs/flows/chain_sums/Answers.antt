-- `loads::flows::chain_sums` meets its contract.
use mathlib.Core.Path.{ap}
use Rattle.lists.specs.Lists.{network_of}
use Rattle.loads.specs.Flows.{chain_end}
use Rattle.loads.proofs.Chains.{walk_start, walk_end, walk-room, walk-on, summable}
use native.Mathlib.Omega.{arith}
use Rattle.loads.proofs.flows.chain_sums.Goals as goal

pub loop-from-init : goal.loop-from-init
loop-from-init c = walk_start _ _ _ _ _ _ _ _ c.links-links.ensures.value (omega arith) c.clear.ensures

pub via-via-requires : goal.via-via-requires
unfolding network_of
via-via-requires c = omega (arith, ap chain_end c.in-Some.is)

pub add_tunnel-requires : goal.add_tunnel-requires
add_tunnel-requires c =
    rw (c.links-links.ensures.value, c.via-via.ensures.value)
    (walk-room _ _ _ _ _ _ _ _ _ c.in-Some.is c.loop-from.invariant (summable _ _ c.links-links.ensures.good c.requires.0 _ c.args.amounts.now.table))

pub offset_bounds-prior-t : goal.offset_bounds-prior-t
offset_bounds-prior-t c = omega (arith, ap chain_end c.in-Some.is, (summable _ _ c.links-links.ensures.good c.requires.0 _ c.args.amounts.now.table).few)

pub bounds-prior-t : goal.bounds-prior-t
bounds-prior-t c = omega (arith, ap chain_end c.in-Some.is, (summable _ _ c.links-links.ensures.good c.requires.0 _ c.args.amounts.now.table).few)

pub loop-from-smaller : goal.loop-from-smaller
loop-from-smaller c = omega (arith, ap chain_end c.in-Some.is, c.requires.1.each c.in-Some.t (omega (arith, ap chain_end c.in-Some.is)))

pub loop-from-preserved : goal.loop-from-preserved
loop-from-preserved c =
    rw c.via-via.ensures.value
    (walk-on _ _ _ _ _ _ _ _ _ c.in-Some.is c.loop-from.invariant (summable _ _ c.links-links.ensures.good c.requires.0 _ c.args.amounts.now.table) _ (rw (c.links-links.ensures.value, c.via-via.ensures.value) at c.add_tunnel.ensures) c.requires.1)

pub returns : goal.returns
returns c = walk_end _ _ _ _ _ _ _ _ (summable _ _ c.links-links.ensures.good c.requires.0 _ c.args.amounts.now.table).few.1 (ap chain_end c.in_default.is) c.loop-from.invariant
