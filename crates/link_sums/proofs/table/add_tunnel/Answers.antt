-- `link_sums::table::add_tunnel` meets its contract: the links below one are passed, and what is left of the set falls.
use native.Mathlib.Omega.{arith}
use lib.Count.{trailing_le}
use Rattle.model.proofs.Sets.{next-within, next-less, passing-start, passing-on, passing-end}
use Rattle.link_sums.proofs.Tables.{added-both, added_none, added-room}
use Rattle.link_sums.proofs.table.add_tunnel.Goals as goal

pub loop-set-init : goal.loop-set-init
loop-set-init c = passing-start _ _ _ (added_none _ _ _)

pub overflow_cast-link : goal.overflow_cast-link
overflow_cast-link c = omega (arith, trailing_le 64 c.loop-set.set)

pub add_link-requires-clause-room : goal.add_link-requires-clause-room
add_link-requires-clause-room c = added-room _ _ _ _ _ c.loop-set.invariant.done c.requires.0 c.requires.1 c.requires.2

pub add_link-requires-clause-link : goal.add_link-requires-clause-link
add_link-requires-clause-link c =
    let i = c.loop-set in
    next-within c.args.via i.invariant.link i.set c.ranges.via.fits i.invariant.left-from c.loop-set-test.true

pub loop-set-smaller : goal.loop-set-smaller
loop-set-smaller c =
    let i = c.loop-set in
    next-less c.args.via i.invariant.link i.set c.ranges.via.fits i.invariant.left-from c.loop-set-test.true

pub loop-set-preserved : goal.loop-set-preserved
loop-set-preserved c =
    let i = c.loop-set in
    passing-on _ c.args.via i.set _ _ c.ranges.via.fits c.loop-set-test.true i.invariant (λ a e h d. added-both a _ e _ _ _ _ _ d c.add_link.ensures (λ l x _. h l x))

pub returns : goal.returns
returns c = passing-end _ _ _ _ c.loop-set.invariant c.loop-set-test.false
