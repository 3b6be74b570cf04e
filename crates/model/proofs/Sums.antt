-- The laws of sums: a proof about sums cites these and does not open `sum_over`.
use Prim.Native.Nat.{ℕ, zero, suc, ◌+◌, ◌*◌, ◌≤◌, ◌<◌}
use mathlib.Core.Path.{◌≡◌, refl, sym, ap, ap₂, ◌∙◌}
use mathlib.Core.Logic.{◌≢◌, ◌⊎◌, inl, inr, ⊎_elim}
use mathlib.Core.Bool.{Bool, true, false, cond, true≢false}
use native.Mathlib.Nat.{add-zero, eq-or-lt_of_le, le_of_suc-le-suc}
use native.Mathlib.Numerals.{add-one}
use native.Mathlib.Omega.{arith}
use borrow.Author.Tests.{eq-eqb, ne_eqb}
use lib.Dec.{T, eqb}
use Rattle.model.specs.Sum.{sum_over}

-- ---- one more summand: what a loop that goes up proves at each turn

pub sum-zero : (p : ℕ → Bool) (x : ℕ → ℕ) → sum_over 0 p x ≡ 0
unfolding sum_over
sum-zero p x = refl

pub sum-next : (n : ℕ) (p : ℕ → Bool) (x : ℕ → ℕ) → sum_over (n + 1) p x ≡ sum_over n p x + cond (p n) (x n) 0
unfolding sum_over
sum-next n p x = ap (λ m. sum_over m p x) (add-one n)

-- a sum so far and what is added to it
pub sum-on : (n : ℕ) (p : ℕ → Bool) (x : ℕ → ℕ) {m v : ℕ} → m ≡ sum_over n p x → v ≡ cond (p n) (x n) 0 → m + v ≡ sum_over (n + 1) p x
sum-on n p x e k = ap₂ (λ (a b : ℕ). a + b) e k ∙ sym (sum-next n p x)

pub sum-take : (n : ℕ) (p : ℕ → Bool) (x : ℕ → ℕ) → p n ≡ true → sum_over (n + 1) p x ≡ sum_over n p x + x n
sum-take n p x e = sum-next n p x ∙ ap (λ (b : Bool). sum_over n p x + cond b (x n) 0) e

pub sum-skip : (n : ℕ) (p : ℕ → Bool) (x : ℕ → ℕ) → p n ≡ false → sum_over (n + 1) p x ≡ sum_over n p x
sum-skip n p x e = sum-next n p x ∙ ap (λ (b : Bool). sum_over n p x + cond b (x n) 0) e ∙ add-zero (sum_over n p x)

-- ---- order, sums and multiples

cond-mono : (b : Bool) {u v : ℕ} → (T b → u ≤ v) → cond b u 0 ≤ cond b v 0
cond-mono true h = h tt
cond-mono false h = omega arith

cond-bound : (b : Bool) {u v : ℕ} → u ≤ v → cond b u 0 ≤ v
cond-bound true h = h
cond-bound false h = omega arith

-- monotone: it is enough to compare the summands that the test picks
pub sum_mono : (n : ℕ) (p : ℕ → Bool) {x y : ℕ → ℕ} → ((t : ℕ) → t < n → T (p t) → x t ≤ y t) → sum_over n p x ≤ sum_over n p y
unfolding sum_over
sum_mono zero p h = omega arith
sum_mono (suc n) p {x} {y} h =
    omega (arith, sum_mono n p {x = x} {y = y} (λ t k. h t (omega arith)), cond-mono (p n) (h n (omega arith)))

pub sum-cong : (n : ℕ) (p : ℕ → Bool) {x y : ℕ → ℕ} → ((t : ℕ) → t < n → T (p t) → x t ≡ y t) → sum_over n p x ≡ sum_over n p y
sum-cong n p {x} {y} h =
    omega (arith, sum_mono n p {x = x} {y = y} (λ t k q. omega (arith, h t k q)), sum_mono n p {x = y} {y = x} (λ t k q. omega (arith, h t k q)))

cond-add : (b : Bool) (u v : ℕ) → cond b (u + v) 0 ≡ cond b u 0 + cond b v 0
cond-add true u v = refl
cond-add false u v = refl

pub sum-add : (n : ℕ) (p : ℕ → Bool) (x y : ℕ → ℕ) → sum_over n p (λ t. x t + y t) ≡ sum_over n p x + sum_over n p y
unfolding sum_over
sum-add zero p x y = refl
sum-add (suc n) p x y = omega (arith, sum-add n p x y, cond-add (p n) (x n) (y n))

cond-mul : (b : Bool) (k u : ℕ) → cond b (k * u) 0 ≡ k * cond b u 0
cond-mul true k u = refl
cond-mul false k u = omega arith

pub sum-mul : (n : ℕ) (p : ℕ → Bool) (k : ℕ) (x : ℕ → ℕ) → sum_over n p (λ t. k * x t) ≡ k * sum_over n p x
unfolding sum_over
sum-mul zero p k x = omega arith
sum-mul (suc n) p k x = omega (arith, sum-mul n p k x, cond-mul (p n) k (x n))

-- of summands that are d times some and i times others
pub sum-line : (n : ℕ) (p : ℕ → Bool) (d i : ℕ) (x o v : ℕ → ℕ) → ((t : ℕ) → t < n → x t ≡ d * o t + i * v t)
    → sum_over n p x ≡ d * sum_over n p o + i * sum_over n p v
sum-line n p d i x o v h =
    sum-cong n p (λ t k _. h t k) ∙ sum-add n p (λ t. d * o t) (λ t. i * v t) ∙ ap₂ ◌+◌ (sum-mul n p d o) (sum-mul n p i v)

cond_more : (b : Bool) {u v : ℕ} → b ≡ true → u ≡ suc v → cond b u 0 ≡ suc (cond b v 0)
cond_more true e h = h
cond_more false e h = absurd (true≢false (sym e))

-- one more, where one summand that the test picks is one more and the others are the same
pub sum_more : (n i : ℕ) (p : ℕ → Bool) {x y : ℕ → ℕ} → i < n → p i ≡ true → x i ≡ suc (y i) → ((t : ℕ) → t < n → T (p t) → t ≢ i → x t ≡ y t)
    → sum_over n p x ≡ suc (sum_over n p y)
unfolding sum_over
sum_more zero i p h e m o = absurd (omega (arith, h))
sum_more (suc n) i p {x} {y} h e m o =
    ⊎_elim
    (λ (k : i ≡ n).
    let lower : sum_over n p x ≡ sum_over n p y = sum-cong n p (λ t l q. o t (omega (arith, l)) q (λ z. omega (arith, z, k, l))) in
    omega (arith, lower, cond_more (p n) (ap p (sym k) ∙ e) (ap x (sym k) ∙ m ∙ ap (λ t. suc (y t)) k)))
    (λ (k : i < n).
    let lower : sum_over n p x ≡ suc (sum_over n p y) = sum_more n i p {x = x} {y = y} k e m (λ t l q. o t (omega (arith, l)) q) in
    let same : T (p n) → x n ≡ y n = λ q. o n (omega arith) q (λ z. omega (arith, z, k)) in
    omega (
      arith,
      lower,
      cond-mono (p n) {u = x n} {v = y n} (λ q. omega (arith, same q)),
      cond-mono (p n) {u = y n} {v = x n} (λ q. omega (arith, same q)),
    ))
    (eq-or-lt_of_le (le_of_suc-le-suc h))

-- at most the bound of a summand, as often as there are summands: what shows that a sum fits
pub sum_bound : (n : ℕ) (p : ℕ → Bool) (x : ℕ → ℕ) (B : ℕ) → ((t : ℕ) → t < n → x t ≤ B) → sum_over n p x ≤ n * B
unfolding sum_over
sum_bound zero p x B h = omega arith
sum_bound (suc n) p x B h = omega (arith, sum_bound n p x B (λ t k. h t (omega arith)), cond-bound (p n) (h n (omega arith)))

-- the summands that two tests pick, where a third picks those of both
pub sum_both : (n : ℕ) (p q r : ℕ → Bool) (x : ℕ → ℕ) → ((t u : ℕ) → cond (p t) u 0 + cond (q t) u 0 ≡ cond (r t) u 0)
    → sum_over n p x + sum_over n q x ≡ sum_over n r x
unfolding sum_over
sum_both zero p q r x h = refl
sum_both (suc n) p q r x h = omega (arith, sum_both n p q r x h, h n (x n))

-- the summands that a test picks, as a sum over all
pub sum-all : (n : ℕ) (p : ℕ → Bool) (x : ℕ → ℕ) → sum_over n (λ t. true) (λ t. cond (p t) (x t) 0) ≡ sum_over n p x
unfolding sum_over
sum-all zero p x = refl
sum-all (suc n) p x = ap (λ (m : ℕ). m + cond (p n) (x n) 0) (sum-all n p x)

-- the more the test picks, the more the sum is
pub sum-wider : (n : ℕ) (p q : ℕ → Bool) (x : ℕ → ℕ) → ((t : ℕ) → p t ≡ true → q t ≡ true) → sum_over n p x ≤ sum_over n q x
unfolding sum_over
sum-wider zero p q x h = omega arith
sum-wider (suc n) p q x h = omega (arith, sum-wider n p q x h, cond-wider (p n) (q n) (h n))
  where
    cond-wider : (a b : Bool) → (a ≡ true → b ≡ true) → cond a (x n) 0 ≤ cond b (x n) 0
    cond-wider false b k = omega arith
    cond-wider true b k = rw (k refl) (omega arith)

-- a summand that the test picks is at most the sum
pub sum_one : (n i : ℕ) (p : ℕ → Bool) (x : ℕ → ℕ) → i < n → p i ≡ true → x i ≤ sum_over n p x
unfolding sum_over
sum_one zero i p x h e = absurd (omega (arith, h))
sum_one (suc n) i p x h e =
    ⊎_elim (λ (k : i ≡ n). rw k (omega (arith, ap (λ (b : Bool). cond b (x n) 0) (ap p (sym k) ∙ e)))) (λ (k : i < n). omega (arith, sum_one n i p x k e)) (eq-or-lt_of_le (le_of_suc-le-suc h))

-- a sum that is not 0 has a summand that is not
pub sum-pos : (n : ℕ) (p : ℕ → Bool) (x : ℕ → ℕ) → 0 < sum_over n p x → (t : ℕ) × (t < n) × (p t ≡ true) × (0 < x t)
unfolding sum_over
sum-pos zero p x h = absurd (omega arith)
sum-pos (suc n) p x h =
    ⊎_elim
    (λ (k : 0 < sum_over n p x). let r = sum-pos n p x k in (r.0, omega (arith, r.1), r.2, r.3))
    (λ (k : 0 < cond (p n) (x n) 0). let r = cond_pos (p n) (x n) k in (n, omega arith, r.0, r.1))
    (either (sum_over n p x) _ h)
  where
    either : (a b : ℕ) → 0 < a + b → (0 < a) ⊎ (0 < b)
    either zero b h = inr (omega arith)
    either (suc a) b h = inl (omega arith)

    cond_pos : (b : Bool) (u : ℕ) → 0 < cond b u 0 → (b ≡ true) × (0 < u)
    cond_pos true u h = (refl, h)
    cond_pos false u h = absurd (omega arith)

-- ---- sums by groups

-- a sum all of whose summands but one are 0
sum-only : (n : ℕ) (p : ℕ → Bool) (x : ℕ → ℕ) (k : ℕ) → ((m : ℕ) → m ≢ k → x m ≡ 0) → k < n → sum_over n p x ≡ cond (p k) (x k) 0
unfolding sum_over
sum-only zero p x k z h = absurd (omega (arith, h))
sum-only (suc n) p x k z h =
    ⊎_elim
    (λ (e : k ≡ n).
    let s : sum_over n p x ≤ n * 0 = sum_bound n p x 0 (λ t g. omega (arith, z t (λ q. omega (arith, q)))) in
    omega (arith, ap (λ (m : ℕ). cond (p m) (x m) 0) e))
    (λ (g : k < n). omega (arith, sum-only n p x k z g, cond-bound (p n) {u = x n} {v = 0} (omega (arith, z n (λ q. omega (arith, q))))))
    (eq-or-lt_of_le (le_of_suc-le-suc h))

-- group by group, where g t is the group of t, or all at once
pub sum-groups : (M n : ℕ) (p : ℕ → Bool) (g : ℕ → ℕ) (x : ℕ → ℕ) → ((t : ℕ) → t < n → g t < M)
    → sum_over M p (λ m. sum_over n (λ t. eqb (g t) m) x) ≡ sum_over n (λ t. p (g t)) x
unfolding sum_over
sum-groups M zero p g x h = omega (arith, sum_bound M p (λ m. 0) 0 (λ t k. omega arith))
sum-groups M (suc n) p g x h =
    let y : ℕ → ℕ = λ m. cond (eqb (g n) m) (x n) 0 in
    let off : (m : ℕ) → m ≢ g n → y m ≡ 0 = λ m q. ap (λ (b : Bool). cond b (x n) 0) (ne_eqb (g n) m (λ e. q (sym e))) in
    let on : y (g n) ≡ x n = ap (λ (b : Bool). cond b (x n) 0) (eq-eqb (g n) (g n) refl) in
    sum-add M p (λ m. sum_over n (λ t. eqb (g t) m) x) y
    ∙ ap₂ ◌+◌ (sum-groups M n p g x (λ t k. h t (omega arith))) (sum-only M p y (g n) off (h n (omega arith)) ∙ ap (λ (u : ℕ). cond (p (g n)) u 0) on)
