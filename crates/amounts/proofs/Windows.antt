-- The windows of a plan, where they are looked at: each has the same number of rows.
use Prim.Native.Nat.{ℕ, ◌+◌, ◌≤◌, ◌<◌, min}
use mathlib.Core.Path.{◌≡◌}
use native.Mathlib.Omega.{arith}
use Rattle.model.specs.Net.{Net, Plan}
use Rattle.model.specs.Rule.{step_count, reach}

module _ (w : ℕ) (N : Net) (P : Plan) (i : ℕ) (h : i < step_count w N P) where
  pub window-in : i + min w P.steps ≤ P.steps
  unfolding step_count
  window-in = omega (arith, h)

  pub window-reach : reach w P i ≡ min w P.steps
  unfolding step_count reach
  window-reach = omega (arith, h)
