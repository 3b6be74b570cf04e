-- `sharing::level::split` meets its contract: the demands passed are added up or counted. Assumes nothing.
use mathlib.Core.Path.{sym}
use native.Mathlib.Omega.{arith}
use Rattle.model.proofs.Sums.{sum-zero, sum-on}
use Rattle.sharing.specs.Share as share
use Rattle.sharing.specs.Inner.{met_by}
use Rattle.sharing.proofs.level.split.Goals as goal

pub loop-demand-init : goal.loop-demand-init
unfolding met_by share.above
loop-demand-init c = record { met = sym (sum-zero _ _); over = sym (sum-zero _ _); small = omega arith; few = omega arith }

pub loop-demand-preserved : goal.loop-demand-preserved
unfolding met_by share.above
loop-demand-preserved c =
    let l = c.loop-demand in
    let d = c.list-demand-items.ensures in
    let low = d.in_range.low l.demand-index (rw d.list at c.loop-demand-test.true) in
    record {
      met = sum-on l.demand-index _ _ l.invariant.met (rw d.list at c.met-sum.ensures.value);
      over = sum-on l.demand-index _ _ l.invariant.over (rw d.list at c.is_above-above.ensures.value);
      small = omega (arith, l.invariant.small, rw d.list at c.met-sum.ensures.upper_bound, low);
      few = omega (arith, l.invariant.few, c.is_above-above.ensures.upper_bound);
    }
