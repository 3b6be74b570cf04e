-- The rows of a window.
use Prim.Native.Nat.{ℕ, ◌+◌, ◌-◌, ◌≤◌, min}
use mathlib.Core.Path.{◌≡◌, ap, ◌∙◌}
use native.Mathlib.Omega.{arith}
use native.Mathlib.Nat.{min-le_right, min-eq_left}
use Rattle.model.specs.Net.{Plan}
use Rattle.model.specs.Rule.{reach, row_in}
use Rattle.model.specs.Window.{Window}

pub window-end : (w : ℕ) (P : Plan) (i : ℕ) → i ≤ P.steps → i + reach w P i ≡ min (i + w) P.steps
unfolding reach
window-end w P i h = omega arith

-- a row that is there
pub row-in : (w : ℕ) (P : Plan) (i n : ℕ) → n ≤ reach w P i → row_in w P i n ≡ i + n
unfolding row_in
row-in w P i n h = ap (λ (k : ℕ). i + k) (min-eq_left h)

row-only : (w : ℕ) (P : Plan) (i n : ℕ) → i ≤ P.steps → (i ≤ row_in w P i n) × (row_in w P i n ≤ min (i + w) P.steps)
unfolding row_in
row-only w P i n h = (omega arith, omega (arith, window-end w P i h, min-le_right n (reach w P i)))

row-all : (w : ℕ) (P : Plan) (i a : ℕ) → i ≤ a → a ≤ min (i + w) P.steps → (n : ℕ) × (row_in w P i n ≡ a)
row-all w P i a low high =
    let there : i ≤ P.steps = omega arith in
    let end : i + reach w P i ≡ min (i + w) P.steps = window-end w P i there in
    (a - i, row-in w P i (a - i) (omega arith) ∙ omega arith)

pub window : Window
window = record { all = row-all; only = row-only }
