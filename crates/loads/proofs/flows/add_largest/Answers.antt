-- `loads::flows::add_largest` meets its contract: as `add_tunnel` of gather.rt, with two tables.
use Prim.Native.Nat.{◌<◌}
use borrow.Author.Tests.{eqb-true}
use lib.Count.{count_trailing_zeros}
use Rattle.model.proofs.Sets.{set-within, next-set, passing-on, passing-end}
use Rattle.loads.proofs.Parts.{part_in}
use Rattle.loads.proofs.ByFlow.{both-more, largest-fits}
use Rattle.loads.proofs.flows.add_largest.Goals as goal

pub add_vector-requires : goal.add_vector-requires
add_vector-requires c = let i = c.loop-left.invariant in
    let z : count_trailing_zeros 64 c.loop-left.left < c.args.links =
    set-within c.args.set c.args.links (count_trailing_zeros 64 c.loop-left.left) c.requires.1 (eqb-true _ _ (next-set c.args.set i.link c.loop-left.left c.ranges.set.fits i.left-from c.loop-left-test.true)) in
    rw c.number.ensures.number (largest-fits _ _ _ _ _ (part_in c.args.part) _ _ _ _ _ _ c.requires.0 z c.requires.2 c.requires.3 i.done c.widen_by.ensures)

pub loop-left-preserved : goal.loop-left-preserved
loop-left-preserved c = let i = c.loop-left.invariant in
    let z : count_trailing_zeros 64 c.loop-left.left < c.args.links =
    set-within c.args.set c.args.links (count_trailing_zeros 64 c.loop-left.left) c.requires.1 (eqb-true _ _ (next-set c.args.set i.link c.loop-left.left c.ranges.set.fits i.left-from c.loop-left-test.true)) in
    passing-on _ _ c.loop-left.left _ _ c.ranges.set.fits c.loop-left-test.true i (λ a e h d. both-more _ _ _ _ _ (part_in c.args.part) a e _ _ _ _ _ z h d c.widen_by.ensures (rw c.number.ensures.number at c.add_vector.ensures))

pub returns : goal.returns
returns c = let b = passing-end _ _ _ _ c.loop-left.invariant c.loop-left-test.false in record {
  widened_on = b.widened;
  added_on = b.added;
}
