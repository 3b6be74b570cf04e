-- `planner::steps::end_load` meets its contract: what is computed fits 64 bits, and is the definition.
use native.Mathlib.Omega.{arith}
use Rattle.planner.proofs.Figures.{most-part, peak-part}
use Rattle.planner.proofs.steps.end_load.Goals as goal

pub overflow_mul-result : goal.overflow_mul-result
overflow_mul-result c = omega (arith, most-part c.args.sums c.requires.0 c.args.more _ _ c.requires.2 c.max-most.ensures)

pub overflow_mul-result-2 : goal.overflow_mul-result-2
overflow_mul-result-2 c = omega (arith, peak-part c.args.sums c.requires.0 c.args.more (omega (arith, c.requires.1, c.requires.2)))

pub overflow_add-result : goal.overflow_add-result
overflow_add-result c = omega (arith, most-part c.args.sums c.requires.0 c.args.more _ _ c.requires.2 c.max-most.ensures, peak-part c.args.sums c.requires.0 c.args.more (omega (arith, c.requires.1, c.requires.2)))
