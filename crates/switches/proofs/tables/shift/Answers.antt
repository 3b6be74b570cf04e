-- `switches::tables::shift` meets its contract: the switches passed are shifted, and what is left of the set falls. Assumes nothing.
use Prim.Native.Nat.{◌+◌, ◌≤◌, ◌<◌}
use mathlib.Core.Path.{◌≡◌}
use native.Mathlib.Omega.{arith}
use lib.Count.{count_trailing_zeros}
use Rattle.lists.specs.Lists.{at}
use Rattle.model.specs.Limits.{most_switches}
use Rattle.switches.proofs.Shifts.{shifting-start, next_low, next-same, shifting-on, shifting-end}
use Rattle.switches.proofs.tables.shift.Goals as goal
use Rattle.switches.proofs.tables.shift.Goals.{In-loop-set}

pub loop-set-init : goal.loop-set-init
loop-set-init c = shifting-start _ _ _ _

-- the next switch is one that there can be
low : (c : In-loop-set) → count_trailing_zeros 64 c.loop-set.set < most_switches
low c =
    let i = c.loop-set in next_low _ _ _ _ i.set _ c.ranges.via.fits c.loop-set-test.true i.invariant c.requires

-- its count is as it was, and can be shifted
same : (c : In-loop-set)
    → let z = count_trailing_zeros 64 c.loop-set.set in
    let a = c.args in
    (at c.loop-set.counts z ≡ at a.counts.now z) × (a.less ≤ at c.loop-set.counts z + a.more)
same c =
    let i = c.loop-set in next-same _ _ _ _ i.set _ c.ranges.via.fits c.loop-set-test.true i.invariant c.requires

pub overflow_add-counts : goal.overflow_add-counts
overflow_add-counts c = omega (arith, (same ((goal.at.overflow_add-counts c).In-loop-set)).0, c.requires.table.most _ (low ((goal.at.overflow_add-counts c).In-loop-set)), c.requires.small)

pub overflow_sub-counts : goal.overflow_sub-counts
overflow_sub-counts c = (same ((goal.at.overflow_sub-counts c).In-loop-set)).1

pub loop-set-preserved : goal.loop-set-preserved
loop-set-preserved c =
    let i = c.loop-set in
    shifting-on _ _ _ _ i.set _ c.ranges.via.fits c.loop-set-test.true i.invariant c.requires

pub returns : goal.returns
returns c = shifting-end _ _ _ _ _ _ c.loop-set.invariant c.loop-set-test.false
