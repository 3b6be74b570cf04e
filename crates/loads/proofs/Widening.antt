-- Laws of the largest numbers of windows: what the loops that widen vectors prove at each turn.
use Prim.Native.Nat.{ℕ, zero, suc, ◌+◌, ◌-◌, ◌≤◌, ◌<◌, max}
use mathlib.Core.Path.{◌≡◌, refl, sym, ap, ap₂, ◌∙◌, subst}
use mathlib.Core.Logic.{◌≢◌, ⊎_elim}
use mathlib.Core.Bool.{Bool, true, false, cond, true≢false}
use mathlib.Core.List.{List}
use native.Mathlib.Omega.{arith}
use native.Mathlib.Nat.{add-zero, eq-or-lt_of_le, max-le}
use native.Mathlib.Numerals.{add-one}
use lib.Dec.{eqb, ltb}
use lib.ListN.{length}
use borrow.Author.Tests.{eq-eqb, ne_eqb, eqb-true, eqb-false, lt-ltb, le-ltb}
use Rattle.model.specs.Largest.{largest}
use Rattle.model.proofs.Largests.{largest-cong}
use Rattle.model.proofs.Searches.{bool_cases, order}
use Rattle.lists.specs.Lists.{at}
use Rattle.loads.specs.Tables.{block_rows, number_at}
use Rattle.loads.specs.Windows.{largest_at, Widened, WidenedOn}
use Rattle.loads.proofs.Vectors.{last_or}

-- the largest of some values, and of those after each: of one more
pub largest-two : (n : ℕ) (f : ℕ → ℕ) → max (largest n f) (largest n (λ k. f (suc k))) ≡ largest (suc n) f
unfolding largest
largest-two zero f = refl
largest-two (suc n) f = omega (arith, largest-two n f)

-- the largest of the larger ones of two that follow each other
pub largest-pairs : (n : ℕ) (f : ℕ → ℕ) → largest n (λ k. max (f k) (f (suc k))) ≡ largest (suc n) f
unfolding largest
largest-pairs zero f = refl
largest-pairs (suc n) f = omega (arith, largest-pairs n f)

-- ---- one vector, once

pub record Going (j k : ℕ) (s s₁ : List ℕ) : Type 0 where
  pub size : length s₁ ≡ length s
  pub done : (b : ℕ) → b < k → at s₁ (number_at j b) ≡ max (at s (number_at j b)) (at s (number_at j (b + 1)))
  pub rest : (b : ℕ) → k ≤ b → b < block_rows → at s₁ (number_at j b) ≡ at s (number_at j b)
  pub others : (i b : ℕ) → b < block_rows → i ≢ j → at s₁ (number_at i b) ≡ at s (number_at i b)

-- no number is then over the largest of the vector
widened-most : (j b : ℕ) (s s₁ : List ℕ) → Widened j s s₁ → ((k : ℕ) → k < block_rows → at s (number_at j k) ≤ b) → (k : ℕ) → k < block_rows → at s₁ (number_at j k) ≤ b
widened-most j b s s₁ w h k hk =
    last_or k (block_rows - 1) hk
    (λ e. rw (w.last k (omega (arith, e))) (h k hk))
    (λ g. rw (w.here k (omega arith)) (max-le (h k hk) (h (k + 1) (omega arith))))

-- ---- one vector, so many times

module _ (j : ℕ) (s : List ℕ) where
  pub times_none : WidenedOn 0 (λ i. eqb i j) s s
  unfolding largest largest_at
  times_none = record {
    size = refl;
    here = λ i k h e. ap (λ (b : ℕ). at s (number_at i b)) (sym (add-zero k));
    most = λ i b h k hk. h k hk;
    others = λ i k h e. refl;
  }

  pub times_more : (p : ℕ) (s₁ s₂ : List ℕ) → WidenedOn p (λ i. eqb i j) s s₁ → Widened j s₁ s₂ → WidenedOn (p + 1) (λ i. eqb i j) s s₂
  unfolding largest_at
  times_more p s₁ s₂ a w = record {
    size = w.size ∙ a.size;
    here = λ i k h e.
        let same : i ≡ j = eqb-true i j e in
        let up : (b : ℕ) → k + 1 + b ≡ k + suc b = λ b. omega arith in
        ap (λ (u : ℕ). at s₂ (number_at u k)) same
        ∙ w.here k (omega arith)
        ∙ ap (λ (u : ℕ). max (at s₁ (number_at u k)) (at s₁ (number_at u (k + 1)))) (sym same)
        ∙ ap₂ max (a.here i k (omega arith) e) (a.here i (k + 1) (omega arith) e ∙ largest-cong p _ _ (λ b _. ap (λ (u : ℕ). at s (number_at i u)) (up b)))
        ∙ largest-two p (λ b. at s (number_at i (k + b)))
        ∙ ap (λ (m : ℕ). largest m (λ b. at s (number_at i (k + b)))) (sym (add-one p));
    most = λ i b h k hk.
        ⊎_elim
        (λ e. let same : i ≡ j = eqb-true i j e in
        subst (λ (u : ℕ). at s₂ (number_at u k) ≤ b) (sym same)
        (widened-most j b s₁ s₂ w (subst (λ (u : ℕ). (m : ℕ) → m < block_rows → at s₁ (number_at u m) ≤ b) same (a.most i b h)) k hk))
        (λ e. rw (w.others i k hk (eqb-false i j e)) (a.most i b h k hk))
        (bool_cases (eqb i j));
    others = λ i k hk e. w.others i k hk (eqb-false i j e) ∙ a.others i k hk e;
  }

-- ---- some vectors

-- what is picked by one of two that pick nothing together
one_of : (c d e : Bool) → ((x : ℕ) → cond c x 0 + cond d x 0 ≡ cond e x 0) → (d ≡ true → c ≡ false) × (d ≡ false → e ≡ c) × (e ≡ false → d ≡ false)
one_of true true e h = absurd (twice e (h 1))
  where
    twice : (b : Bool) → cond true 1 0 + cond true 1 0 ≡ cond b 1 0 → ⊥
    twice true q = omega (arith, q)
    twice false q = omega (arith, q)
one_of true false true h = (λ q. absurd (true≢false (sym q)), λ q. refl, λ q. refl)
one_of true false false h = absurd (omega (arith, h 1))
one_of false true true h = (λ q. refl, λ q. absurd (true≢false q), λ q. absurd (true≢false q))
one_of false true false h = absurd (omega (arith, h 1))
one_of false false true h = absurd (omega (arith, h 1))
one_of false false false h = (λ q. refl, λ q. refl, λ q. refl)

-- what is picked already is not picked again
pub picked-once : (c e : ℕ → Bool) (z : ℕ) → ((l x : ℕ) → cond (c l) x 0 + cond (eqb l z) x 0 ≡ cond (e l) x 0) → (l : ℕ) → c l ≡ true → eqb l z ≡ false
picked-once c e z both l t = ⊎_elim (λ q. absurd (true≢false (sym t ∙ (one_of (c l) (eqb l z) (e l) (both l)).0 q))) (λ q. q) (bool_cases (eqb l z))

module _ (n : ℕ) where
  pub widened_more : (c e : ℕ → Bool) (z : ℕ) (s s₁ s₂ : List ℕ) → ((l x : ℕ) → cond (c l) x 0 + cond (eqb l z) x 0 ≡ cond (e l) x 0) → WidenedOn n c s s₁ → WidenedOn n (λ j. eqb j z) s₁ s₂
      → WidenedOn n e s s₂
  unfolding largest_at
  widened_more c e z s s₁ s₂ both a b = record {
    size = b.size ∙ a.size;
    here = λ j k hk t.
        let o = one_of (c j) (eqb j z) (e j) (both j) in
        ⊎_elim
        (λ q. b.here j k hk q ∙ largest-cong n _ _ (λ m hm. a.others j (k + m) (omega arith) (o.0 q)))
        (λ q. b.others j k (omega arith) q ∙ a.here j k hk (sym (o.1 q) ∙ t))
        (bool_cases (eqb j z));
    most = λ j m h. b.most j m (a.most j m h);
    others = λ j k hk t.
        let o = one_of (c j) (eqb j z) (e j) (both j) in
        b.others j k hk (o.2 t) ∙ a.others j k hk (sym (o.1 (o.2 t)) ∙ t);
  }

-- the numbers below n, and n itself
pub below_next : (n l x : ℕ) → cond (ltb l n) x 0 + cond (eqb l n) x 0 ≡ cond (ltb l (n + 1)) x 0
below_next n l x =
    ⊎_elim
    (λ (h : l ≤ n).
    ⊎_elim
    (λ (e : l ≡ n). rw (le-ltb l n (omega arith), eq-eqb l n e, lt-ltb l (n + 1) (omega arith)) (omega arith))
    (λ (g : l < n). rw (lt-ltb l n g, ne_eqb l n (λ q. omega arith), lt-ltb l (n + 1) (omega arith)) (omega arith))
    (eq-or-lt_of_le h))
    (λ (g : n < l). rw (le-ltb l n (omega arith), ne_eqb l n (λ q. omega arith), le-ltb l (n + 1) (omega arith)) refl)
    (order l n)
