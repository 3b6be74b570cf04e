-- `switches::tables::fits` meets its contract: there is room at the switches passed, and what is left of the set falls. Assumes nothing.
use Prim.Native.Nat.{◌+◌, ◌≤◌, ◌<◌}
use native.Mathlib.Omega.{arith}
use native.Mathlib.Nat.{mul-le-mul}
use lib.Count.{count_trailing_zeros}
use Rattle.model.proofs.Sets.{next-within}
use Rattle.lists.specs.Lists.{at}
use Rattle.model.specs.Limits.{most_tunnels, most_switches}
use Rattle.switches.proofs.Shifts.{fitting-start, fitting-on, fitting-not, fitting-end}
use Rattle.switches.proofs.tables.fits.Goals as goal
use Rattle.switches.proofs.tables.fits.Goals.{After-shared_slice_known-in-loop-left-1, In-loop-left}

pub loop-left-init : goal.loop-left-init
loop-left-init c = fitting-start _ _ _ _ _ _

-- the next switch is one that there can be
low : (c : In-loop-left) → count_trailing_zeros 64 c.loop-left.left < most_switches
low c =
    let i = c.loop-left in next-within c.args.via i.invariant.switch i.left c.ranges.via.fits i.invariant.left-from c.loop-left-test.true

-- its count, with one more
tally : (c : After-shared_slice_known-in-loop-left-1)
    → at c.args.counts.now (count_trailing_zeros 64 c.loop-left.left) + c.args.more ≤ most_tunnels + 1
tally c =
    let i = c.loop-left in
    omega (arith, c.requires.table.0.most _ (next-within c.args.via i.invariant.switch i.left c.ranges.via.fits i.invariant.left-from c.loop-left-test.true), c.requires.unit_bound.1)

pub overflow_mul-times : goal.overflow_mul-times
overflow_mul-times c =
    let p = c.requires in omega (arith, mul-le-mul p.unit_bound.2 (p.table.1.most _ (low ((goal.at.overflow_mul-times c).In-loop-left))))

pub overflow_add-counts : goal.overflow_add-counts
overflow_add-counts c = omega (arith, tally c)

pub overflow_mul-unit : goal.overflow_mul-unit
overflow_mul-unit c = omega (arith, mul-le-mul c.requires.unit_bound.0 (tally c))

pub returns-then-times-spares : goal.returns-then-times-spares
returns-then-times-spares c =
    let i = c.loop-left in
    fitting-not _ _ _ _ _ _ i.left c.ranges.via.fits c.loop-left-test.true i.invariant c.if-times-spares.true

pub loop-left-preserved : goal.loop-left-preserved
loop-left-preserved c =
    let i = c.loop-left in
    fitting-on _ _ _ _ _ _ i.left c.ranges.via.fits c.loop-left-test.true i.invariant c.if-times-spares.false

pub returns : goal.returns
returns c = fitting-end _ _ _ _ _ _ _ c.loop-left.invariant c.loop-left-test.false
