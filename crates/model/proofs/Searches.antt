-- The laws of a search: a proof about a search cites these and does not open `first`.
use Prim.Native.Nat.{ℕ, zero, suc, ◌+◌, ◌≤◌, ◌<◌}
use mathlib.Core.Path.{◌≡◌, refl, sym, ap, ap₂, ◌∙◌}
use mathlib.Core.Logic.{◌⊎◌, inl, inr, ⊎_elim}
use mathlib.Core.Option.{Option, none, some, some-ne-none, none-ne-some, some-injective, or_else}
use mathlib.Core.Bool.{Bool, true, false, cond, not, ◌&&◌, true≢false}
use native.Mathlib.Nat.{eq-or-lt_of_le, le_of_suc-le-suc, not-suc-le-zero, le_antisymm}
use native.Mathlib.Numerals.{add-one}
use native.Mathlib.Omega.{arith}
use native.Mathlib.Decide.{dec_le}
use lib.Dec.{T}
use Rattle.model.specs.Search.{only_if, is_none, first}

pub bool_cases : (b : Bool) → (b ≡ true) ⊎ (b ≡ false)
bool_cases true = inl refl
bool_cases false = inr refl

pub and-false : (b : Bool) → (b && false) ≡ false
and-false true = refl
and-false false = refl

pub cond-most : (b : Bool) (x : ℕ) → cond b x 0 ≤ x
cond-most true x = omega arith
cond-most false x = omega arith

pub not-false : (b : Bool) → not b ≡ false → b ≡ true
not-false true e = refl
not-false false e = absurd (true≢false e)

pub not-true : (b : Bool) → not b ≡ true → b ≡ false
not-true true e = sym e
not-true false e = refl

pub and-true : (a b : Bool) → (a && b) ≡ true → (a ≡ true) × (b ≡ true)
and-true true b e = (refl, e)
and-true false b e = absurd (true≢false (sym e))

-- the same of a test that antt computes
pub both : (a b : Bool) → T (a && b) → T a × T b
both true b t = (tt, t)
both false b t = absurd t

pub option_cases : {A : Type 0} (o : Option A) → (o ≡ none) ⊎ ((a : A) × (o ≡ some a))
option_cases none = inl refl
option_cases (some a) = inr (a, refl)

pub only-some : {A : Type 0} (t : Bool) (a b : A) → only_if t a ≡ some b → (t ≡ true) × (a ≡ b)
unfolding only_if
only-some true a b e = (refl, some-injective a b e)
only-some false a b e = absurd (none-ne-some b e)

pub only_none : {A : Type 0} (t : Bool) (a : A) → only_if t a ≡ none → t ≡ false
unfolding only_if
only_none true a e = absurd (some-ne-none a e)
only_none false a e = refl

pub only-true : {A : Type 0} (t : Bool) (a : A) → t ≡ true → only_if t a ≡ some a
unfolding only_if
only-true true a e = refl
only-true false a e = absurd (true≢false (sym e))

pub only-false : {A : Type 0} (t : Bool) (a : A) → t ≡ false → only_if t a ≡ none
unfolding only_if
only-false true a e = absurd (true≢false e)
only-false false a e = refl

pub none_true : {A : Type 0} (o : Option A) → is_none o ≡ true → o ≡ none
unfolding is_none
none_true none e = refl
none_true (some a) e = absurd (true≢false (sym e))

pub true-none : {A : Type 0} (o : Option A) → o ≡ none → is_none o ≡ true
unfolding is_none
true-none none e = refl
true-none (some a) e = absurd (some-ne-none a e)

pub or-none : {A : Type 0} (o p : Option A) → or_else o p ≡ none → (o ≡ none) × (p ≡ none)
unfolding or_else
or-none none p e = (refl, e)
or-none (some a) p e = absurd (some-ne-none a e)

pub or_some : {A : Type 0} (o p : Option A) (a : A) → or_else o p ≡ some a → (o ≡ some a) ⊎ ((o ≡ none) × (p ≡ some a))
unfolding or_else
or_some none p a e = inr (refl, e)
or_some (some b) p a e = inl e

pub order : (a b : ℕ) → (a ≤ b) ⊎ (b < a)
order a b = elim (dec_le a b) [ yes h ↦ inl h | no h ↦ inr (omega arith) ]

pub le_of_not_lt : {k j : ℕ} → ¬ (j < k) → k ≤ j
le_of_not_lt h = omega arith

module _ {A : Type 0} (f : ℕ → Option A) where
  -- nothing found: no place has an answer
  pub first-none : (n : ℕ) → first n f ≡ none → (k : ℕ) → k < n → f k ≡ none
  unfolding first
  first-none zero e k h = absurd (not-suc-le-zero h)
  first-none (suc n) e k h =
      let s = or-none (first n f) (f n) e in
      ⊎_elim (λ i. rw i s.1) (first-none n s.0 k) (eq-or-lt_of_le (le_of_suc-le-suc h))

  -- something found: it is the answer of a place, and no place before has one
  pub first_some : (n : ℕ) (a : A) → first n f ≡ some a → (k : ℕ) × (k < n) × (f k ≡ some a) × (first k f ≡ none)
  unfolding first
  first_some zero a e = absurd (some-ne-none a (sym e))
  first_some (suc n) a e =
      ⊎_elim
      (λ q. let s = first_some n a q in (s.0, omega (arith, s.1), s.2, s.3))
      (λ q. (n, omega arith, q.1, q.0))
      (or_some (first n f) (f n) a e)

  pub none_first : (n : ℕ) → ((k : ℕ) → k < n → f k ≡ none) → first n f ≡ none
  none_first n h =
      ⊎_elim (λ q. q)
      (λ r. let s = first_some n r.0 r.1 in absurd (some-ne-none r.0 (sym s.2 ∙ h s.0 s.1)))
      (option_cases (first n f))

  -- a place with an answer: something is found
  pub first_found : (n k : ℕ) (a : A) → k < n → f k ≡ some a → (b : A) × (first n f ≡ some b)
  first_found n k a h e =
      ⊎_elim (λ q. absurd (some-ne-none a (sym e ∙ first-none n q k h))) (λ r. r) (option_cases (first n f))

  -- and it is the answer of no later place
  pub first-least : (n j : ℕ) (b : A) → j < n → f j ≡ some b → (k : ℕ) × (k ≤ j) × (a : A) × (f k ≡ some a) × (first n f ≡ some a)
  first-least n j b h e =
      let r = first_found n j b h e in
      let s = first_some n r.0 r.1 in
      (s.0, le_of_not_lt (λ k. some-ne-none b (sym e ∙ first-none s.0 s.3 j k)), r.0, s.2, r.1)

  -- ---- what a loop that goes up proves: at its start, at each turn, and where it stops
  pub first-zero : first 0 f ≡ none
  unfolding first
  first-zero = refl

  pub first_on : (n : ℕ) → first n f ≡ none → f n ≡ none → first (n + 1) f ≡ none
  unfolding first or_else
  first_on n e h = rw (add-one, e) h

  pub first-at : (n m : ℕ) (a : A) → first n f ≡ none → f n ≡ some a → n < m → first m f ≡ some a
  first-at n m a e h k =
      let r = first-least m n a k h in
      let same : r.0 ≡ n = le_antisymm r.1 (le_of_not_lt (λ g. some-ne-none r.2 (sym r.3 ∙ first-none n e r.0 g))) in
      r.4 ∙ sym r.3 ∙ ap f same ∙ h

-- only the places below n count
pub first_cong : {A : Type 0} (f g : ℕ → Option A) (n : ℕ) → ((k : ℕ) → k < n → f k ≡ g k) → first n f ≡ first n g
unfolding first
first_cong f g zero h = refl
first_cong f g (suc n) h = ap₂ or_else (first_cong f g n (λ k l. h k (omega arith))) (h n (omega arith))
