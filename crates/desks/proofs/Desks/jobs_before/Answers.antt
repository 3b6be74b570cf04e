-- `desks::Desks::jobs_before` meets its contract: the desks below `at` are counted. Assumes nothing.
use mathlib.Core.Path.{◌≡◌, ◌∙◌}
use native.Mathlib.Omega.{arith}
use Rattle.desks.proofs.Rounds.{below_none, below_next, below_all}
use Rattle.desks.proofs.Desks.jobs_before.Goals as goal

pub loop-at-init : goal.loop-at-init
loop-at-init c = record { total = c.counted-sum.ensures ∙ below_none _ _ _ _; small = omega (arith, c.counted-sum.ensures) }

pub loop-at-preserved : goal.loop-at-preserved
loop-at-preserved c =
    let i = c.loop-at.invariant in
    let n = c.from_other-sum.ensures in
    record {
      total = below_next _ _ _ _ _ _ _ i.total n.value;
      small = omega (arith, i.small, n.upper_bound);
    }

pub returns : goal.returns
returns c =
    let k : c.loop-at.at ≡ 8 = omega arith in
    below_all _ _ _ _ _ _ k c.loop-at.invariant.total
