-- Sums over the numbers below n that a test picks.
use Rattle.std.specs.Prelude.{ℕ, zero, suc, ◌+◌, Bool, cond}

-- the sum of x t over the t below n with p t
unfoldable pub sum_over : ℕ → (ℕ → Bool) → (ℕ → ℕ) → ℕ
sum_over zero p x = 0
sum_over (suc n) p x = sum_over n p x + cond (p n) (x n) 0
