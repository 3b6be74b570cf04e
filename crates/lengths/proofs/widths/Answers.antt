-- `lengths::widths` meets its contract.
use Rattle.lengths.proofs.Measuring.{widths-none, widths-more}
use native.Mathlib.Omega.{arith}
use Rattle.lengths.proofs.widths.Goals as goal

pub loop-v-init : goal.loop-v-init
loop-v-init c = record { sum-is = omega (arith, widths-none c.args.numbers.now); small = omega arith }

pub loop-v-preserved : goal.loop-v-preserved
loop-v-preserved c = record { sum-is = omega (arith, c.loop-v.invariant.sum-is, c.width-sum.ensures.0, widths-more c.args.numbers.now c.loop-v.v-index); small = omega (arith, c.loop-v.invariant.small, c.width-sum.ensures.1) }
