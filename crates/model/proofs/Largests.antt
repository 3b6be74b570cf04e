-- The laws of the largest of some values.
use Prim.Native.Nat.{ℕ, zero, suc, ◌+◌, ◌-◌, ◌*◌, ◌≤◌, ◌<◌, max}
use mathlib.Core.Path.{◌≡◌, refl, ap, ap₂, ◌∙◌}
use mathlib.Core.Logic.{⊎_elim}
use mathlib.Core.Bool.{Bool, true, false, cond}
use native.Mathlib.Omega.{arith}
use native.Mathlib.Nat.{eq-or-lt_of_le, le_of_suc-le-suc, max-eq_left, max-eq_right, mul-le-mul_left}
use borrow.Author.Tests.{ltb-true, ltb-false}
use lib.Dec.{ltb}
use Rattle.model.specs.Largest.{largest, peak_at}
use Rattle.model.proofs.Searches.{bool_cases, order}

pub largest-ge : (n : ℕ) (f : ℕ → ℕ) (k : ℕ) → k ≤ n → f k ≤ largest n f
unfolding largest
largest-ge zero f k h = let e : k ≡ 0 = omega arith in omega (arith, ap f e)
largest-ge (suc n) f k h =
    ⊎_elim (λ (e : k ≡ suc n). omega (arith, ap f e)) (λ (l : k < suc n). omega (arith, largest-ge n f k (le_of_suc-le-suc l))) (eq-or-lt_of_le h)

pub largest-le : (n : ℕ) (f : ℕ → ℕ) (B : ℕ) → ((k : ℕ) → k ≤ n → f k ≤ B) → largest n f ≤ B
unfolding largest
largest-le zero f B h = h 0 (omega arith)
largest-le (suc n) f B h = omega (arith, largest-le n f B (λ k l. h k (omega arith)), h (suc n) (omega arith))

pub largest-cong : (n : ℕ) (f g : ℕ → ℕ) → ((k : ℕ) → k ≤ n → f k ≡ g k) → largest n f ≡ largest n g
unfolding largest
largest-cong zero f g h = h 0 (omega arith)
largest-cong (suc n) f g h = ap₂ max (largest-cong n f g (λ k l. h k (omega arith))) (h (suc n) (omega arith))

-- the place of the largest
cond-in : (b : Bool) (u v B : ℕ) → u ≤ B → v ≤ B → cond b u v ≤ B
cond-in true u v B h k = h
cond-in false u v B h k = k

pub peak-in : (n : ℕ) (f : ℕ → ℕ) → peak_at n f ≤ n
unfolding peak_at
peak-in zero f = omega arith
peak-in (suc n) f = cond-in (ltb (largest n f) (f (suc n))) (suc n) (peak_at n f) (suc n) (omega arith) (omega (arith, peak-in n f))

pub peak-largest : (n : ℕ) (f : ℕ → ℕ) → f (peak_at n f) ≡ largest n f
unfolding peak_at largest
peak-largest zero f = refl
peak-largest (suc n) f =
    let l : ℕ = largest n f in
    let k : ℕ = peak_at n f in
    ⊎_elim
    (λ e. ap (λ (b : Bool). f (cond b (suc n) k)) e ∙ omega (arith, ltb-true l (f (suc n)) e))
    (λ e. ap (λ (b : Bool). f (cond b (suc n) k)) e ∙ omega (arith, peak-largest n f, ltb-false l (f (suc n)) e))
    (bool_cases (ltb l (f (suc n))))

pub peak-later : (n : ℕ) (f : ℕ → ℕ) → f 0 < largest n f → 0 < peak_at n f
peak-later n f h =
    let later : ¬ (peak_at n f ≤ 0) = λ z. let e : peak_at n f ≡ 0 = omega arith in omega (arith, ap f e, peak-largest n f) in omega arith

-- on a line from q × o in row 0 to q × v in row q, the largest of row i and n more: what all have in common, and the larger of o and v for each step between
larger-end : (d n o v : ℕ) → max (suc d * o + n * max o v) (d * o + suc n * v) ≡ d * o + suc n * max o v
larger-end d n o v =
    ⊎_elim
    (λ (h : o ≤ v). rw (max-eq_right h) (omega arith))
    (λ (h : v < o). let k : v ≤ o = omega arith in rw (max-eq_left k) (omega (arith, mul-le-mul_left (suc n) k)))
    (order o v)

pub largest-line : (f : ℕ → ℕ) (q o v i n : ℕ) → ((k : ℕ) → k ≤ n → f k ≡ (q - (i + k)) * o + (i + k) * v) → i + n ≤ q
    → largest n f ≡ (q - (i + n)) * o + i * v + n * max o v
unfolding largest
largest-line f q o v i zero h k = let e : i + 0 ≡ i = omega arith in omega (arith, h 0 (omega arith), ap (λ (r : ℕ). (q - r) * o) e)
largest-line f q o v i (suc n) h k =
    let d : ℕ = q - (i + suc n) in
    let e : q - (i + n) ≡ suc d = omega arith in
    omega (arith, largest-line f q o v i n (λ j l. h j (omega arith)) (omega arith), h (suc n) (omega arith), ap (λ (r : ℕ). r * o) e, larger-end d n o v)
