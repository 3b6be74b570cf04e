-- `link_sums::by_flow::add_across` meets its contract: the links below one are passed, and what is left of the set falls.
use Prim.Native.Nat.{◌<◌}
use native.Mathlib.Omega.{arith}
use lib.Count.{count_trailing_zeros, trailing_le}
use Rattle.model.specs.Limits.{most_links}
use Rattle.model.proofs.Sets.{next-within, next-less, passing-start, passing-on, passing-end}
use Rattle.link_sums.specs.Tables.{Side}
use Rattle.link_sums.proofs.Flows.{across-none, across-on, across-most}
use Rattle.link_sums.proofs.by_flow.add_across.Goals as goal
use Rattle.link_sums.proofs.by_flow.add_across.Goals.{In-loop-set}

-- the link of the lowest bit that is left
low : (c : In-loop-set) → count_trailing_zeros 64 c.loop-set.set < most_links
low c =
    let p = c.loop-set.invariant in
    next-within c.args.via p.link c.loop-set.set c.ranges.via.fits p.left-from c.loop-set-test.true

pub loop-set-init : goal.loop-set-init
loop-set-init c = passing-start _ _ _ (across-none _ _ _)

pub overflow_cast-link : goal.overflow_cast-link
overflow_cast-link c = omega (arith, trailing_le 64 c.loop-set.set)

pub overflow_add-sums : goal.overflow_add-sums
overflow_add-sums c = omega (arith, across-most _ _ _ _ _ c.loop-set.invariant.done c.requires.0 c.requires.1 c.requires.2 Side.before _ (low ((goal.at.overflow_add-sums c).In-loop-set)), c.requires.1)

pub overflow_add-sums-in-loop-set : goal.overflow_add-sums-in-loop-set
overflow_add-sums-in-loop-set c = omega (arith, across-most _ _ _ _ _ c.loop-set.invariant.done c.requires.0 c.requires.1 c.requires.2 Side.after _ (low ((goal.at.overflow_add-sums-in-loop-set c).In-loop-set)), c.requires.2)

pub loop-set-smaller : goal.loop-set-smaller
loop-set-smaller c = next-less c.args.via c.loop-set.invariant.link c.loop-set.set c.ranges.via.fits c.loop-set.invariant.left-from c.loop-set-test.true

pub loop-set-preserved : goal.loop-set-preserved
loop-set-preserved c = passing-on _ c.args.via c.loop-set.set _ _ c.ranges.via.fits c.loop-set-test.true c.loop-set.invariant (λ a e h d. across-on _ _ _ a e _ _ (low ((goal.at.loop-set-preserved c).In-loop-set)) c.requires.0.size d h)

pub returns : goal.returns
returns c = passing-end _ _ _ _ c.loop-set.invariant c.loop-set-test.false
