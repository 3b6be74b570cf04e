-- `link_sums::by_flow::add_sums` meets its contract: the links below one have the flow's sums added, and what is left of the set falls.
use Prim.Native.Nat.{◌<◌}
use native.Mathlib.Omega.{arith}
use lib.Count.{count_trailing_zeros, trailing_le}
use Rattle.model.specs.Limits.{most_links}
use Rattle.model.proofs.Sets.{next-within, next-less, passing-start, passing-on, passing-end}
use Rattle.link_sums.specs.Tables.{Side}
use Rattle.link_sums.proofs.Flows.{sums_none, sums_on, sums-room}
use Rattle.link_sums.proofs.by_flow.add_sums.Goals as goal
use Rattle.link_sums.proofs.by_flow.add_sums.Goals.{In-loop-set}

-- the link of the lowest bit that is left
low : (c : In-loop-set) → count_trailing_zeros 64 c.loop-set.set < most_links
low c =
    let p = c.loop-set.invariant in
    next-within c.args.crossed p.link c.loop-set.set c.ranges.crossed.fits p.left-from c.loop-set-test.true

pub loop-set-init : goal.loop-set-init
loop-set-init c = passing-start _ _ _ (sums_none _ _)

pub overflow_cast-link : goal.overflow_cast-link
overflow_cast-link c = omega (arith, trailing_le 64 c.loop-set.set)

pub add_link-requires-clause-room : goal.add_link-requires-clause-room
add_link-requires-clause-room c = sums-room _ _ _ _ c.loop-set.invariant.done c.requires.1 c.requires.0

pub add_link-requires-clause-amounts : goal.add_link-requires-clause-amounts
add_link-requires-clause-amounts c = (c.requires.1.most Side.before _ (low ((goal.at.add_link-requires-clause-amounts c).In-loop-set)), c.requires.1.most Side.after _ (low ((goal.at.add_link-requires-clause-amounts c).In-loop-set)))

pub loop-set-smaller : goal.loop-set-smaller
loop-set-smaller c = next-less c.args.crossed c.loop-set.invariant.link c.loop-set.set c.ranges.crossed.fits c.loop-set.invariant.left-from c.loop-set-test.true

pub loop-set-preserved : goal.loop-set-preserved
loop-set-preserved c = passing-on _ c.args.crossed c.loop-set.set _ _ c.ranges.crossed.fits c.loop-set-test.true c.loop-set.invariant (λ a e h d. sums_on _ a e _ _ _ _ d c.add_link.ensures h)

pub returns : goal.returns
returns c = passing-end _ _ _ _ c.loop-set.invariant c.loop-set-test.false
