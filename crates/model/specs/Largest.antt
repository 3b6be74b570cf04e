-- The largest of some values, and where it stands.
use Rattle.std.specs.Prelude.{ℕ, zero, suc, max, cond, ltb}

-- the largest of f 0, f 1, .. f n
unfoldable pub largest : ℕ → (ℕ → ℕ) → ℕ
largest zero f = f 0
largest (suc n) f = max (largest n f) (f (suc n))

-- the first place that has it
unfoldable pub peak_at : ℕ → (ℕ → ℕ) → ℕ
peak_at zero f = 0
peak_at (suc n) f = cond (ltb (largest n f) (f (suc n))) (suc n) (peak_at n f)
