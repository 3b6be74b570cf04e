-- `page::blocks::put_links` meets its contract: each turn puts a line.
use native.Mathlib.Omega.{arith}
use Prim.Native.Nat.{◌<◌}
use mathlib.Core.Path.{◌≡◌}
use Rattle.lists.specs.Lists.{network_sizes}
use Rattle.page.proofs.Sizes.{link-length}
use Rattle.page.proofs.Putting.{block_none, block_room, block-next}
use Rattle.page.proofs.blocks.put_links.Goals as goal
use Rattle.page.proofs.blocks.put_links.Goals.{In-loop-l}

-- in a turn
less : (c : In-loop-l) → c.loop-l.l < (network_sizes c.args.pair.now.network).links
less c = let n = rw c.network.ensures.value at c.links-l-end.ensures.count in omega (arith, n)

pub loop-l-init : goal.loop-l-init
loop-l-init c = block_none _ _ _

pub put_link-at-requires : goal.put_link-at-requires
put_link-at-requires c = let h = less ((goal.at.put_link-at-requires c).In-loop-l) in (c.requires.0, c.requires.1, h, block_room _ _ _ c.requires.2 h c.loop-l.invariant)

pub loop-l-preserved : goal.loop-l-preserved
loop-l-preserved c = let h = less ((goal.at.loop-l-preserved c).In-loop-l) in
    block-next _ _ _ c.requires.2 h c.loop-l.invariant (link-length _ _ c.requires.0 _ c.requires.1 _ h) c.put_link-at.ensures

pub returns : goal.returns
returns c =
    let n = rw c.network.ensures.value at c.links-l-end.ensures.count in
    let e : c.loop-l.l ≡ (network_sizes c.args.pair.now.network).links = omega (arith, n) in
    rw e at c.loop-l.invariant.puts
