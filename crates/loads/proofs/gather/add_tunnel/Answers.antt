-- `loads::gather::add_tunnel` meets its contract: the links below one are passed, and what is left of the set falls.
use Prim.Native.Nat.{◌<◌}
use borrow.Author.Tests.{eqb-true}
use lib.Count.{count_trailing_zeros}
use Rattle.model.proofs.Sets.{set-within, next-set, passing-on, passing-end}
use Rattle.loads.proofs.Vectors.{addable, added_more}
use Rattle.loads.proofs.gather.add_tunnel.Goals as goal

pub add_vector-requires : goal.add_vector-requires
add_vector-requires c = let i = c.loop-set.invariant in
    let z : count_trailing_zeros 64 c.loop-set.set < c.args.links =
    set-within c.args.via c.args.links (count_trailing_zeros 64 c.loop-set.set) c.requires.links_of (eqb-true _ _ (next-set c.args.via i.link c.loop-set.set c.ranges.via.fits i.left-from c.loop-set-test.true)) in
    addable _ _ _ _ _ _ _ _ _ _ z c.requires i.done

pub loop-set-preserved : goal.loop-set-preserved
loop-set-preserved c = let i = c.loop-set.invariant in
    let z : count_trailing_zeros 64 c.loop-set.set < c.args.links =
    set-within c.args.via c.args.links (count_trailing_zeros 64 c.loop-set.set) c.requires.links_of (eqb-true _ _ (next-set c.args.via i.link c.loop-set.set c.ranges.via.fits i.left-from c.loop-set-test.true)) in
    passing-on _ _ c.loop-set.set _ _ c.ranges.via.fits c.loop-set-test.true i (λ a e h d. added_more _ _ _ c.requires.few.1 a e _ _ _ _ _ z d c.add_vector.ensures h)

pub returns : goal.returns
returns c = passing-end _ _ _ _ c.loop-set.invariant c.loop-set-test.false
