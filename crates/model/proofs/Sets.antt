-- Sets of links or switches, gone through from each set digit to the next: what `trailing_zeros` and `n & (n - 1)` tell.
use Prim.Native.Nat.{ℕ, zero, suc, ◌+◌, ◌-◌, ◌*◌, ◌/◌, ◌%◌, ◌^◌, ◌≤◌, ◌<◌, max}
use mathlib.Core.Path.{◌≡◌, refl, sym, ap, ap₂, ◌∙◌, subst, fun_ext}
use mathlib.Core.Logic.{◌≢◌}
use mathlib.Core.Bool.{Bool, true, false, cond, ◌&&◌}
use native.Mathlib.Omega.{arith}
use native.Mathlib.Decide.{dec_lt}
use native.Mathlib.Nat.{add-zero, mul-one, mul_assoc, div-one, div-eq_of_lt, div-mul-le_self, div-add-mod', mod-lt, mod_self, zero-div, le_of_eq, lt_of_le_of_lt, lt_of_lt_of_le, lt_of_not-le}
use native.Mathlib.Numerals.{add-one, one-add}
use lib.Dec.{eqb, ltb}
use lib.Pow.{pow_pos, pow_mono, pow-lt, pow-add, shl-shr, shr-shr, shr_lt, split, mod-pow-add}
use lib.Bits.{bit_and, bit_or, and_block, and_self, and_mask, and_le_r, shifted_even, or_shr, or_step}
use lib.Count.{count_trailing_zeros, under}
use borrow.Author.Tests.{eq-eqb, ne_eqb, eqb-false, lt-ltb, le-ltb}
use Rattle.model.specs.Sets.{in_set}
use Rattle.model.proofs.Searches.{le_of_not_lt}

-- digit i + 1 of a number is digit i of its half
digit-suc : (n i : ℕ) → n / 2 / 2 ^ i ≡ n / 2 ^ suc i
digit-suc n i = shr-shr n 1 i ∙ ap (λ (e : ℕ). n / 2 ^ e) (one-add i)

-- the digits below the lowest set one are 0
pub below-lowest : (k n j : ℕ) → j < count_trailing_zeros k n → n / 2 ^ j % 2 ≡ 0
unfolding count_trailing_zeros
below-lowest zero n j h = absurd (omega arith)
below-lowest (suc k) n j h = go (n % 2) refl (below-lowest k (n / 2)) j h
  where
    go : (d : ℕ) → n % 2 ≡ d → ((i : ℕ) → i < count_trailing_zeros k (n / 2) → n / 2 / 2 ^ i % 2 ≡ 0) → (j : ℕ) → j < under d (count_trailing_zeros k (n / 2)) → n / 2 ^ j % 2 ≡ 0
    go zero e rest zero h = ap (λ (m : ℕ). m % 2) (div-one n) ∙ e
    go zero e rest (suc i) h = ap (λ (m : ℕ). m % 2) (sym (digit-suc n i)) ∙ rest i (omega arith)
    go (suc d) e rest j h = absurd (omega arith)

-- and it is set
pub at-lowest : (k n : ℕ) → n ≢ 0 → n < 2 ^ k → n / 2 ^ count_trailing_zeros k n % 2 ≡ 1
unfolding count_trailing_zeros
at-lowest zero n z h = absurd (z (omega arith))
at-lowest (suc k) n z h = go (n % 2) refl (at-lowest k (n / 2))
  where
    go : (d : ℕ) → n % 2 ≡ d → (n / 2 ≢ 0 → n / 2 < 2 ^ k → n / 2 / 2 ^ count_trailing_zeros k (n / 2) % 2 ≡ 1) → n / 2 ^ under d (count_trailing_zeros k (n / 2)) % 2 ≡ 1
    go zero e rest =
        let low : n < 2 ^ (k + 1) = rw add-one h in
        ap (λ (m : ℕ). m % 2) (sym (digit-suc n (count_trailing_zeros k (n / 2)))) ∙ rest (λ y. z (omega (arith, div-add-mod' n 2))) (shr_lt k 1 low)
    go (suc d) e rest = ap (λ (m : ℕ). m % 2) (div-one n) ∙ omega (arith, mod-lt n {m = 2} (omega arith))

-- a number whose lowest z digits are 0
low-zero : (n z : ℕ) → ((j : ℕ) → j < z → n / 2 ^ j % 2 ≡ 0) → n % 2 ^ z ≡ 0
low-zero n zero h = omega arith
low-zero n (suc z) h =
    ap (λ (e : ℕ). n % 2 ^ e) (sym (one-add z))
    ∙ mod-pow-add n 1 z
    ∙ ap₂ (λ (d r : ℕ). d * 2 ^ z + r) (h z (omega arith)) (low-zero n z (λ j k. h j (omega arith)))
    ∙ omega arith

-- its lowest set digit, at z, is cleared by `n & (n - 1)`
cleared : (n z : ℕ) → n / 2 ^ z % 2 ≡ 1 → n % 2 ^ z ≡ 0 → bit_and n (n - 1) ≡ n / 2 ^ suc z * 2 ^ suc z
cleared n z one low =
    let a : ℕ = n / 2 ^ suc z in
    let p : ℕ = 2 ^ z in
    let pos : 0 < p = pow_pos z in
    let lt : p < 2 ^ suc z = pow-lt (omega arith) in
    let lt' : p - 1 < 2 ^ suc z = omega arith in
    let tail : n % 2 ^ suc z ≡ p =
    ap (λ (e : ℕ). n % 2 ^ e) (sym (one-add z)) ∙ mod-pow-add n 1 z ∙ ap₂ (λ (d r : ℕ). d * p + r) one low ∙ omega arith in
    let whole : n ≡ a * 2 ^ suc z + p = omega (arith, split n (suc z)) in
    let less : n - 1 ≡ a * 2 ^ suc z + (p - 1) = omega arith in
    ap₂ bit_and whole less
    ∙ and_block (suc z) a a p (p - 1) lt lt'
    ∙ ap₂ (λ (x y : ℕ). x * 2 ^ suc z + y) (and_self a) (and_mask p z ∙ mod_self p)
    ∙ add-zero _

-- where nothing is left after l digits, the digits from l on are 0
pub digits-gone : (n l j : ℕ) → n / 2 ^ l ≡ 0 → l ≤ j → n / 2 ^ j % 2 ≡ 0
digits-gone n l j e h =
    let k : l + (j - l) ≡ j = omega arith in
    ap (λ (i : ℕ). n / 2 ^ i % 2) (sym k) ∙ ap (λ (m : ℕ). m % 2) (sym (shr-shr n l (j - l)))
    ∙ ap (λ (m : ℕ). m / 2 ^ (j - l) % 2) e ∙ ap (λ (m : ℕ). m % 2) (zero-div (2 ^ (j - l)))

-- a digit that is set is one of those that there are
pub set-within : (n k j : ℕ) → n < 2 ^ k → n / 2 ^ j % 2 ≡ 1 → j < k
set-within n k j h e = lt_of_not-le (λ g. absurd (gone g))
  where
    gone : k ≤ j → ⊥
    gone g =
        let w : n / 2 ^ j % 2 ≡ 0 = ap (λ (m : ℕ). m % 2) (div-eq_of_lt (lt_of_lt_of_le h (pow_mono g))) in omega arith

-- ---- a number without its lowest l digits, which are 0 instead

pub none_left : (n l : ℕ) → n / 2 ^ l * 2 ^ l ≡ 0 → n / 2 ^ l ≡ 0
none_left n l e = sym (shl-shr (n / 2 ^ l) l) ∙ ap (λ (m : ℕ). m / 2 ^ l) e ∙ zero-div (2 ^ l)

left_below : (a l j : ℕ) → j < l → a * 2 ^ l / 2 ^ j % 2 ≡ 0
left_below a l j h =
    let k : suc (l - suc j) + j ≡ l = omega arith in
    let m : ℕ = l - suc j in
    ap (λ (i : ℕ). a * 2 ^ i / 2 ^ j % 2) (sym k)
    ∙ ap (λ (x : ℕ). a * x / 2 ^ j % 2) (pow-add 2 (suc m) j)
    ∙ ap (λ (x : ℕ). x / 2 ^ j % 2) (sym (mul_assoc a (2 ^ suc m) (2 ^ j)))
    ∙ ap (λ (x : ℕ). x % 2) (shl-shr (a * 2 ^ suc m) j)
    ∙ shifted_even a m

left-above : (n l j : ℕ) → l ≤ j → n / 2 ^ l * 2 ^ l / 2 ^ j ≡ n / 2 ^ j
left-above n l j h =
    let k : l + (j - l) ≡ j = omega arith in
    ap (λ (i : ℕ). n / 2 ^ l * 2 ^ l / 2 ^ i) (sym k)
    ∙ sym (shr-shr (n / 2 ^ l * 2 ^ l) l (j - l))
    ∙ ap (λ (m : ℕ). m / 2 ^ (j - l)) (shl-shr (n / 2 ^ l) l)
    ∙ shr-shr n l (j - l)
    ∙ ap (λ (i : ℕ). n / 2 ^ i) k

-- on to the lowest digit that is left
module _ (n l left : ℕ) (fits : n < 2 ^ 64) (e : left ≡ n / 2 ^ l * 2 ^ l) (some : left ≢ 0) where
  left-fits : left < 2 ^ 64
  left-fits = lt_of_le_of_lt (le_of_eq e) (lt_of_le_of_lt (div-mul-le_self n (2 ^ l)) fits)

  next : ℕ
  next = count_trailing_zeros 64 left

  next_one : left / 2 ^ next % 2 ≡ 1
  unfolding next
  next_one = at-lowest 64 left some left-fits

  next-zero : (j : ℕ) → j < next → left / 2 ^ j % 2 ≡ 0
  unfolding next
  next-zero j h = below-lowest 64 left j h

  from : l ≤ next
  from = le_of_not_lt (λ h. absurd (clash (ap (λ (m : ℕ). m / 2 ^ next % 2) e ∙ left_below (n / 2 ^ l) l next h)))
    where
      clash : left / 2 ^ next % 2 ≡ 0 → ⊥
      clash z = omega (arith, next_one)

  digit-kept : (j : ℕ) → l ≤ j → n / 2 ^ j % 2 ≡ left / 2 ^ j % 2
  digit-kept j h = ap (λ (m : ℕ). m % 2) (sym (ap (λ (m : ℕ). m / 2 ^ j) e ∙ left-above n l j h))

  pub next-from : l ≤ count_trailing_zeros 64 left
  unfolding next
  next-from = from

  pub next-set : in_set n (count_trailing_zeros 64 left) ≡ true
  unfolding next
  next-set = eq-eqb _ 1 (digit-kept next from ∙ next_one)

  pub next-below : (j : ℕ) → l ≤ j → j < count_trailing_zeros 64 left → in_set n j ≡ false
  unfolding next
  next-below j h k = ap (λ (d : ℕ). eqb d 1) (digit-kept j h ∙ next-zero j k)

  pub next-within : count_trailing_zeros 64 left < 64
  unfolding next
  next-within = set-within left 64 next left-fits next_one

  pub next-left : bit_and left (left - 1) ≡ n / 2 ^ (count_trailing_zeros 64 left + 1) * 2 ^ (count_trailing_zeros 64 left + 1)
  unfolding next
  next-left =
      let up : l ≤ suc next = omega (arith, from) in
      cleared left next next_one (low-zero left next next-zero)
      ∙ ap (λ (m : ℕ). m * 2 ^ suc next) (ap (λ (m : ℕ). m / 2 ^ suc next) e ∙ left-above n l (suc next) up)
      ∙ ap (λ (i : ℕ). n / 2 ^ i * 2 ^ i) (sym (add-one next))

  pub next-less : bit_and left (left - 1) < left
  next-less = omega (arith, and_le_r left (left - 1))

-- ---- from each set digit to the next

-- the links of a set below a link
abbrev pub passed : ℕ → ℕ → ℕ → Bool
passed via link l = ltb l link && in_set via l

-- on from a link to the next in the set: those between are not in it
pub passed_on : (via link z : ℕ) → link ≤ z → ((j : ℕ) → link ≤ j → j < z → in_set via j ≡ false) → in_set via z ≡ true
    → (l x : ℕ) → cond (passed via link l) x 0 + cond (eqb l z) x 0 ≡ cond (passed via (z + 1) l) x 0
passed_on via link z up none one l x =
    elim (dec_lt l link) [
      | yes h ↦ rw (lt-ltb l link h, ne_eqb l z (λ q. omega arith), lt-ltb l (z + 1) (omega arith)) (add-zero _)
      | no h ↦ rw (le-ltb l link (omega arith)) (beyond (omega arith))
    ]
  where
    beyond : link ≤ l → 0 + cond (eqb l z) x 0 ≡ cond (passed via (z + 1) l) x 0
    beyond h =
        elim (dec_lt l z) [
          | yes k ↦ rw (ne_eqb l z (λ q. omega arith), lt-ltb l (z + 1) (omega arith), none l h k) refl
          | no k ↦ elim (dec_lt z l) [
            | yes j ↦ rw (ne_eqb l z (λ q. omega arith), le-ltb l (z + 1) (omega arith)) refl
            | no j ↦ (let e : l ≡ z = omega arith in rw e (rw (eq-eqb z z refl, lt-ltb z (z + 1) (omega arith), one) (omega arith)))
          ]
        ]

pub passed_none : (via l : ℕ) → false ≡ passed via 0 l
passed_none via l = sym (ap (λ (b : Bool). b && in_set via l) (le-ltb l 0 (omega arith)))

-- where nothing of the set is left, all are passed
pub passed-all : (via link : ℕ) → via / 2 ^ link ≡ 0 → (l : ℕ) → passed via link l ≡ in_set via l
passed-all via link e l =
    elim (dec_lt l link) [
      | yes h ↦ ap (λ (b : Bool). b && in_set via l) (lt-ltb l link h)
      | no h ↦ (let up : link ≤ l = omega arith in
          ap (λ (b : Bool). b && in_set via l) (le-ltb l link up) ∙ sym (ap (λ (d : ℕ). eqb d 1) (digits-gone via link l e up)))
    ]

-- ---- a loop over a set, on a list or some: `Done c s` says that in s the work is done for the links that c picks

-- it is done for the links of a set below a link, and those from it on are left
pub record Passing {A : Type 0} (Done : (ℕ → Bool) → A → Type 0) (via left : ℕ) (s : A) : Type 0 where
  pub link : ℕ
  pub left-from : left ≡ via / 2 ^ link * 2 ^ link
  pub done : Done (passed via link) s

module _ {A : Type 0} (Done : (ℕ → Bool) → A → Type 0) (via : ℕ) where
  pub passing-start : (s : A) → Done (λ l. false) s → Passing Done via via s
  passing-start s d = record { link = 0; left-from = sym (mul-one _ ∙ div-one via); done = subst (λ (c : ℕ → Bool). Done c s) (fun_ext (passed_none via)) d }

  pub passing-on : (left : ℕ) (s s₁ : A) → via < 2 ^ 64 → left ≢ 0 → Passing Done via left s
      → ((c e : ℕ → Bool) → ((l x : ℕ) → cond (c l) x 0 + cond (eqb l (count_trailing_zeros 64 left)) x 0 ≡ cond (e l) x 0) → Done c s → Done e s₁)
      → Passing Done via (bit_and left (left - 1)) s₁
  passing-on left s s₁ fits some P more =
      let z : ℕ = count_trailing_zeros 64 left in
      let l : ℕ = P.link in
      let e = P.left-from in
      record {
        link = z + 1;
        left-from = next-left via l left fits e some;
        done = more (passed via l) (passed via (z + 1)) (passed_on via l z (next-from via l left fits e some) (next-below via l left fits e some) (next-set via l left fits e some)) P.done;
      }

  pub passing-end : (left : ℕ) (s : A) → Passing Done via left s → left ≡ 0 → Done (in_set via) s
  passing-end left s P z = subst (λ (c : ℕ → Bool). Done c s) (fun_ext (passed-all via P.link (none_left via P.link (sym P.left-from ∙ z)))) P.done

-- ---- two sets together

or-digit : (a b l : ℕ) → bit_or a b / 2 ^ l % 2 ≡ max (a / 2 ^ l % 2) (b / 2 ^ l % 2)
or-digit a b l =
    ap (λ (m : ℕ). m % 2) (or_shr a b l ∙ or_step (a / 2 ^ l) (b / 2 ^ l))
    ∙ omega (arith, mod-lt (a / 2 ^ l) {m = 2} (omega arith), mod-lt (b / 2 ^ l) {m = 2} (omega arith))

-- what is not in the two together is in neither
pub or-outside : (a b l : ℕ) → in_set (bit_or a b) l ≡ false → (in_set a l ≡ false) × (in_set b l ≡ false)
or-outside a b l e =
    let low : (n : ℕ) → n % 2 < 2 = λ n. mod-lt n {m = 2} (omega arith) in
    let no : max (a / 2 ^ l % 2) (b / 2 ^ l % 2) ≢ 1 = λ q. eqb-false (bit_or a b / 2 ^ l % 2) 1 e (or-digit a b l ∙ q) in (
      ne_eqb (a / 2 ^ l % 2) 1 (λ q. no (omega (arith, q, low (b / 2 ^ l)))),
      ne_eqb (b / 2 ^ l % 2) 1 (λ q. no (omega (arith, q, low (a / 2 ^ l)))),
    )
