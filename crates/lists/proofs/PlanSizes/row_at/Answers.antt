-- `lists::PlanSizes::row_at` meets its contract.
use native.Mathlib.Nat.{mul-le-mul, le_trans, sub-le}
use native.Mathlib.Omega.{arith}
use Rattle.lists.proofs.PlanSizes.row_at.Goals as goal

pub overflow_mul-result : goal.overflow_mul-result
overflow_mul-result c = omega (arith, mul-le-mul (le_trans (sub-le _ 1) c.requires.1) c.requires.2)

pub overflow_add-result : goal.overflow_add-result
overflow_add-result c = omega (arith, mul-le-mul (le_trans (sub-le _ 1) c.requires.1) c.requires.2)
