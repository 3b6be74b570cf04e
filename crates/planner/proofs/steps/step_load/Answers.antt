-- `planner::steps::step_load` meets its contract: what is computed fits 64 bits, and is the definition.
use native.Mathlib.Omega.{arith}
use Rattle.planner.proofs.Figures.{old-part, new-part, peak-part}
use Rattle.planner.proofs.steps.step_load.Goals as goal

pub overflow_mul-result : goal.overflow_mul-result
overflow_mul-result c = omega (arith, old-part c.args.sums c.requires.0 _ _ c.requires.1)

pub overflow_mul-result-2 : goal.overflow_mul-result-2
overflow_mul-result-2 c = omega (arith, new-part c.args.sums c.requires.0 c.args.row (omega (arith, c.requires.1)))

pub overflow_add-result-2 : goal.overflow_add-result-2
overflow_add-result-2 c = omega (arith, old-part c.args.sums c.requires.0 _ _ c.requires.1, new-part c.args.sums c.requires.0 c.args.row (omega (arith, c.requires.1)))

pub overflow_mul-result-3 : goal.overflow_mul-result-3
overflow_mul-result-3 c = omega (arith, peak-part c.args.sums c.requires.0 c.args.lag (omega (arith, c.requires.1)))

pub overflow_add-result-3 : goal.overflow_add-result-3
overflow_add-result-3 c = omega (arith, old-part c.args.sums c.requires.0 _ _ c.requires.1, new-part c.args.sums c.requires.0 c.args.row (omega (arith, c.requires.1)), peak-part c.args.sums c.requires.0 c.args.lag (omega (arith, c.requires.1)))
