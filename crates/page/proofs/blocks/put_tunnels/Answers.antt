-- `page::blocks::put_tunnels` meets its contract: each turn puts a line.
use native.Mathlib.Omega.{arith}
use Prim.Native.Nat.{◌<◌}
use mathlib.Core.Path.{◌≡◌}
use Rattle.lists.specs.Lists.{network_sizes}
use Rattle.page.proofs.Sizes.{tunnel-length}
use Rattle.page.proofs.Putting.{block_none, block_room, block-next}
use Rattle.page.proofs.blocks.put_tunnels.Goals as goal
use Rattle.page.proofs.blocks.put_tunnels.Goals.{In-loop-t}

-- in a turn
less : (c : In-loop-t) → c.loop-t.t < (network_sizes c.args.pair.now.network).tunnels
less c = let n = rw c.network.ensures.value at c.tunnels-t-end.ensures.count in omega (arith, n)

pub loop-t-init : goal.loop-t-init
loop-t-init c = block_none _ _ _

pub put_tunnel-at-requires : goal.put_tunnel-at-requires
put_tunnel-at-requires c = let h = less ((goal.at.put_tunnel-at-requires c).In-loop-t) in (h, block_room _ _ _ c.requires h c.loop-t.invariant)

pub loop-t-preserved : goal.loop-t-preserved
loop-t-preserved c = let h = less ((goal.at.loop-t-preserved c).In-loop-t) in
    block-next _ _ _ c.requires h c.loop-t.invariant (tunnel-length _ c.network.ensures.checkable.network _ h) c.put_tunnel-at.ensures

pub returns : goal.returns
returns c =
    let n = rw c.network.ensures.value at c.tunnels-t-end.ensures.count in
    let e : c.loop-t.t ≡ (network_sizes c.args.pair.now.network).tunnels = omega (arith, n) in
    rw e at c.loop-t.invariant.puts
