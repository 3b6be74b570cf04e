-- Numbers and their digits: reading what is written gives the number, and writing what is read gives the digits.
use mathlib.Core.Path.{◌≡◌, refl, sym, ap, ◌∙◌}
use mathlib.Core.Bool.{Bool, true, false, cond, not, ◌&&◌, ◌||◌}
use mathlib.Core.List.{List, [], ◌∷◌}
use mathlib.Core.Option.{Option, none, some}
use Prim.Native.Nat.{ℕ, zero, suc, ◌+◌, ◌*◌, ◌-◌, ◌/◌, ◌%◌, ◌^◌, ◌≤◌, ◌<◌}
use native.Mathlib.Nat.{add-zero, one-mul, le_antisymm, div-eq_of_lt, div-lt_iff_lt-mul, le-div_iff_mul-le, lt_irrefl, pow-le-pow_right, add-mul, mul_assoc, add_assoc, zero-mul, zero-add, mod-lt, mod-eq_of_lt, pow-zero, pow-suc, pow-succ', div-one, div-div-eq-div-mul, lt_of_lt_of_le}
use native.Mathlib.Decide.{dec_lt, ℕ_discrete}
use native.Mathlib.Omega.{arith}
use lib.Arith.{mod-mul, digits_mod, digits_div}
use lib.Dec.{T, ltb, leb, eqb, lit≤, leb→le}
use mathlib.Core.Logic.{◌⊎◌, inl, inr, ⊎_elim}
use lib.ListN.{length, get_or}
use borrow.Author.Tests.{ltb-true, ltb-false, eqb-true, eqb-false, lt-ltb, le-ltb, le-leb, lt-leb, eq-eqb, ne_eqb}
use Rattle.model.proofs.Searches.{both}
use Rattle.forms.specs.Line.{digit_of, number_from, decimal_of, hex_of}
use Rattle.forms.specs.Write.{digit_char, digits_in, width_from, width_of}

-- ---- how many digits there are

pub length_digits : (base n v : ℕ) → length (digits_in base n v) ≡ n
unfolding digits_in
length_digits base zero v = refl
length_digits base (suc n) v = ap suc (length_digits base n v)

-- a digit's byte and its value
pub digit-of-char : (x : ℕ) → x < 16 → digit_of (digit_char x) ≡ x
unfolding digit_of
digit-of-char x h = go (dec_lt x 10)
  where
    go : Dec (x < 10) → digit_of (digit_char x) ≡ x
    go (yes k) =
        let a : 48 ≤ 48 + x = omega arith in
        let b : 48 + x ≤ 57 = omega arith in
        rw (lt-ltb x 10 k, le-ltb (48 + x) 48 a, le-leb (48 + x) 57 b) (omega arith)
    go (no k) =
        let k' : 10 ≤ x = omega arith in
        let a : 48 ≤ 87 + x = omega arith in
        let b : 57 < 87 + x = omega arith in
        let c : 97 ≤ 87 + x = omega arith in
        let d : 87 + x ≤ 102 = omega arith in
        rw (le-ltb x 10 k', le-ltb (87 + x) 48 a, lt-leb (87 + x) 57 b, le-ltb (87 + x) 97 c, le-leb (87 + x) 102 d) (omega arith)

-- the digits' bytes
data Digit (b : ℕ) : Type 0 where
  decimal_digit : 48 ≤ b → b ≤ 57 → digit_of b ≡ b - 48 → Digit b
  letter : 97 ≤ b → b ≤ 102 → digit_of b ≡ b - 87 → Digit b

digit-cases : (b : ℕ) → digit_of b < 16 → Digit b
unfolding digit_of
digit-cases b h = low (dec_lt b 48) h
  where
    high : 97 ≤ b → digit_of b < 16 → Dec (102 < b) → Digit b
    high k h (yes l) =
        let c : 57 < b = omega arith in
        let d : 48 ≤ b = omega arith in
        absurd (lt_irrefl 16 (rw (le-ltb b 48 d, lt-leb b 57 c, le-ltb b 97 k, lt-leb b 102 l) at h))
    high k h (no l) =
        let c : 57 < b = omega arith in
        let d : 48 ≤ b = omega arith in
        let e : b ≤ 102 = omega arith in
        letter k e (rw (le-ltb b 48 d, lt-leb b 57 c, le-ltb b 97 k, le-leb b 102 e))

    mid : 48 ≤ b → 57 < b → digit_of b < 16 → Dec (b < 97) → Digit b
    mid d c h (yes l) = absurd (lt_irrefl 16 (rw (le-ltb b 48 d, lt-leb b 57 c, lt-ltb b 97 l) at h))
    mid d c h (no l) = high (omega arith) h (dec_lt 102 b)

    next : 48 ≤ b → digit_of b < 16 → Dec (57 < b) → Digit b
    next d h (yes c) = mid d c h (dec_lt b 97)
    next d h (no c) =
        let e : b ≤ 57 = omega arith in
        decimal_digit d e (rw (le-ltb b 48 d, le-leb b 57 e))

    low : Dec (b < 48) → digit_of b < 16 → Digit b
    low (yes l) h = absurd (lt_irrefl 16 (rw (lt-ltb b 48 l) at h))
    low (no l) h = next (omega arith) h (dec_lt 57 b)

pub char-of-digit : (b : ℕ) → digit_of b < 16 → digit_char (digit_of b) ≡ b
char-of-digit b h = go (digit-cases b h)
  where
    go : Digit b → digit_char (digit_of b) ≡ b
    go (decimal_digit x y e) =
        let k : b - 48 < 10 = omega arith in
        rw (e, lt-ltb (b - 48) 10 k) (omega arith)
    go (letter x y e) =
        let k : 10 ≤ b - 87 = omega arith in
        rw (e, le-ltb (b - 87) 10 k) (omega arith)

power_pos : (base n : ℕ) → 0 < base → 0 < base ^ n
power_pos base n h =
    let z : 0 ≤ n = omega arith in
    let e : base ^ 0 ≤ base ^ n = pow-le-pow_right h z in
    rw pow-zero at e

-- the number that some digits are
number_of : (base : ℕ) → 0 < base → base ≤ 16 → (n a v : ℕ) → number_from base a (digits_in base n v) ≡ some (a * base ^ n + v % base ^ n)
unfolding number_from digits_in
number_of base p q zero a v =
    let e : a ≡ a * 1 + v % 1 = omega arith in
    rw pow-zero (ap some e)
number_of base p q (suc n) a v =
    let x : ℕ = v / base ^ n % base in
    let hx : v / base ^ n % base < base = mod-lt (v / base ^ n) p in
    let dx : digit_of (digit_char (v / base ^ n % base)) ≡ v / base ^ n % base = digit-of-char (v / base ^ n % base) (omega arith) in
    let e : (a * base + v / base ^ n % base) * base ^ n + v % base ^ n ≡ a * base ^ suc n + v % base ^ suc n
    = rw (pow-succ', mod-mul v p (power_pos base n p)) (simp (add-mul, mul_assoc, add_assoc)) in
    rw (dx, lt-ltb (v / base ^ n % base) base hx) (number_of base p q n (a * base + v / base ^ n % base) v ∙ ap some e)

pub number_digits : (base : ℕ) → 0 < base → base ≤ 16 → (n v : ℕ) → v < base ^ n → number_from base 0 (digits_in base n v) ≡ some v
number_digits base p q n v h =
    let e : 0 * base ^ n + v % base ^ n ≡ v = rw (mod-eq_of_lt h, zero-mul, zero-add) in
    number_of base p q n 0 v ∙ ap some e

-- the digits that a number was read from
record From (base a w : ℕ) (d : List ℕ) : Type 0 where
  digits : d ≡ digits_in base (length d) w
  left : w / base ^ length d ≡ a

module _ (base : ℕ) (p : 0 < base) (q : base ≤ 16) where
  from_more : (a w b : ℕ) (d : List ℕ) → digit_of b < base → From base (a * base + digit_of b) w d → From base a w (b ∷ d)
  unfolding digits_in
  from_more a w b d h f =
      let m : (a * base + digit_of b) % base ≡ digit_of b = digits_mod a h in
      let k : (a * base + digit_of b) / base ≡ a = digits_div a h in
      record {
        digits = rw (f.left, m, char-of-digit b (lt_of_lt_of_le h q)) (ap (λ (l : List ℕ). b ∷ l) f.digits);
        left = rw (pow-suc, ← div-div-eq-div-mul w (base ^ length d) base, f.left) k;
      }

  from-cond : (a w b : ℕ) (d : List ℕ) (t : Bool) → ltb (digit_of b) base ≡ t
      → (number_from base (a * base + digit_of b) d ≡ some w → From base (a * base + digit_of b) w d)
      → cond t (number_from base (a * base + digit_of b) d) none ≡ some w → From base a w (b ∷ d)
  from-cond a w b d true t f e = from_more a w b d (ltb-true (digit_of b) base t) (f e)
  from-cond a w b d false t f e = let z : ◌≡◌ {A = ℕ} 0 1 = cc in absurd (omega arith)

  from : (a w : ℕ) (d : List ℕ) → number_from base a d ≡ some w → From base a w d
  unfolding number_from digits_in
  from a w [] e =
      let k : a ≡ w = cc in
      record { digits = refl; left = rw (pow-zero, div-one) (sym k) }
  from a w (b ∷ d) e = from-cond a w b d (ltb (digit_of b) base) refl (from (a * base + digit_of b) w d) e

-- n is the number of decimal digits of v
record Wide (v n : ℕ) : Type 0 where
  least : 1 ≤ n
  below : v < 10 ^ n
  above : (n ≡ 1) ⊎ (10 ^ (n - 1) ≤ v)

ten : (m n : ℕ) → m ≤ n → 10 ^ m ≤ 10 ^ n
ten m n h = pow-le-pow_right (lit≤ tt) h

wide-no-more : (v m n : ℕ) → Wide v m → Wide v n → n ≤ m
wide-no-more v m n x y = go (dec_lt m n)
  where
    off : m < n → (n ≡ 1) ⊎ (10 ^ (n - 1) ≤ v) → ⊥
    off k (inl e) = omega (arith, x.least)
    off k (inr e) = omega (arith, x.below, ten m (n - 1) (omega arith))

    go : Dec (m < n) → n ≤ m
    go (yes k) = absurd (off k y.above)
    go (no k) = omega arith

wide-unique : (v m n : ℕ) → Wide v m → Wide v n → m ≡ n
wide-unique v m n x y = le_antisymm (wide-no-more v n m y x) (wide-no-more v m n x y)

width-wide : (f m v : ℕ) → 1 ≤ m → v < 10 ^ (m + f) → (m ≡ 1) ⊎ (10 ^ (m - 1) ≤ v) → Wide v (width_from f m v)
unfolding width_from
width-wide zero m v s h a = record { least = s; below = rw add-zero at h; above = a }
width-wide (suc f) m v s h a =
    go (ltb v (10 ^ m)) refl (λ k. width-wide f (suc m) v (omega arith) (rw move at h) (inr (rw down k)))
  where
    move : m + suc f ≡ suc m + f
    move = omega arith

    down : suc m - 1 ≡ m
    down = omega arith

    go : (b : Bool) → ltb v (10 ^ m) ≡ b → (10 ^ m ≤ v → Wide v (width_from f (suc m) v)) → Wide v (cond b m (width_from f (suc m) v))
    go true e k = record { least = s; below = ltb-true v (10 ^ m) e; above = a }
    go false e k = k (ltb-false v (10 ^ m) e)

width-of : (v : ℕ) → v < 10000000000 → Wide v (width_of v)
unfolding width_of
width-of v h = width-wide 9 1 v (lit≤ tt) h (inl refl)

pub width-from : (f m v : ℕ) → width_from f m v ≤ m + f
unfolding width_from
width-from zero m v = omega arith
width-from (suc f) m v = go (ltb v (10 ^ m)) (width-from f (suc m) v)
  where
    go : (b : Bool) → width_from f (suc m) v ≤ suc m + f → cond b m (width_from f (suc m) v) ≤ m + suc f
    go true h = omega arith
    go false h = omega arith

-- and where the number has at most f + 1 digits, so many it has
pub width_same : (f v n : ℕ) → v < 10 ^ (1 + f) → 1 ≤ n → v < 10 ^ n → (n ≡ 1) ⊎ (10 ^ (n - 1) ≤ v) → width_from f 1 v ≡ n
width_same f v n h one below above = wide-unique v (width_from f 1 v) n (width-wide f 1 v (lit≤ tt) h (inl refl)) (record { least = one; below = below; above = above })

-- no number is written with more than 10 digits
pub width-ten : (v : ℕ) → width_of v ≤ 10
unfolding width_of
width-ten v = width-from 9 1 v

-- a number from 10^(n-1) on, or any where n is 1, and below 10^n, has n digits
pub width_is : (v n : ℕ) → 1 ≤ n → n ≤ 10 → v < 10 ^ n → (n ≡ 1) ⊎ (10 ^ (n - 1) ≤ v) → width_of v ≡ n
width_is v n one most h a = wide-unique v (width_of v) n (width-of v (omega (arith, h, ten n 10 most))) (record { least = one; below = h; above = a })

-- a number below 10^n has at most n digits
pub width-most : (v n : ℕ) → 1 ≤ n → n ≤ 10 → v < 10 ^ n → width_of v ≤ n
width-most v n one most h = go (dec_lt n (width_of v))
  where
    w : Wide v (width_of v)
    w = width-of v (omega (arith, h, ten n 10 most))

    off : n < width_of v → (width_of v ≡ 1) ⊎ (10 ^ (width_of v - 1) ≤ v) → ⊥
    off k (inl e) = omega arith
    off k (inr e) = omega (arith, ten n (width_of v - 1) (omega arith))

    go : Dec (n < width_of v) → width_of v ≤ n
    go (yes k) = absurd (off k w.above)
    go (no k) = omega arith

-- the first of a number's digits is no zero, where it has more than one; and where that holds of the first of n digits, the number has n
first-digit : (v m : ℕ) → v < 10 ^ suc m → 10 ^ m ≤ v → digit_char (v / 10 ^ m % 10) ≡ 48 → ⊥
first-digit v m h k e =
    let pos : 0 < 10 ^ m = power_pos 10 m (lit≤ tt) in
    let less : v / 10 ^ m < 10 = (div-lt_iff_lt-mul pos).1 (rw pow-succ' at h) in
    let one : 1 ≤ v / 10 ^ m = (le-div_iff_mul-le pos).1 (rw one-mul k) in
    let same : v / 10 ^ m % 10 ≡ v / 10 ^ m = mod-eq_of_lt less in
    omega (arith, rw (same, lt-ltb (v / 10 ^ m) 10 less) at e)

no_digit : (v m : ℕ) → (digit_char (v / 10 ^ m % 10) ≡ 48 → ⊥) → 10 ^ m ≤ v
no_digit v m h = go (dec_lt v (10 ^ m))
  where
    go : Dec (v < 10 ^ m) → 10 ^ m ≤ v
    go (yes k) = absurd (h (rw (div-eq_of_lt k)))
    go (no k) = omega arith

-- a number's decimal digits are read as the number
leads : (v n : ℕ) → Wide v n → (n ≡ 1 → ⊥) → get_or (digits_in 10 n v) 0 0 ≡ 48 → ⊥
unfolding digits_in
leads v zero w o e = omega (arith, w.least)
leads v (suc m) w o e = go w.above
  where
    go : (suc m ≡ 1) ⊎ (10 ^ (suc m - 1) ≤ v) → ⊥
    go (inl k) = o k
    go (inr k) =
        let d : suc m - 1 ≡ m = omega arith in
        first-digit v m w.below (rw d at k) e

wide_read : (v n : ℕ) → Wide v n → n ≤ 10 → decimal_of (digits_in 10 n v) ≡ some v
unfolding decimal_of
wide_read v n w l = go (ℕ_discrete n 1)
  where
    value : number_from 10 0 (digits_in 10 n v) ≡ some v
    value = number_digits 10 (lit≤ tt) (lit≤ tt) n v w.below

    go : Dec (n ≡ 1) → decimal_of (digits_in 10 n v) ≡ some v
    go (yes e) = rw (length_digits 10 n v, le-leb 1 n w.least, le-leb n 10 l, eq-eqb n 1 e) value
    go (no o) = rw (length_digits 10 n v, le-leb 1 n w.least, le-leb n 10 l, ne_eqb n 1 o, ne_eqb (get_or (digits_in 10 n v) 0 0) 48 (leads v n w o)) value

pub decimal-digits : (v : ℕ) → v < 10000000000 → decimal_of (digits_in 10 (width_of v) v) ≡ some v
decimal-digits v h = wide_read v (width_of v) (width-of v h) (width-ten v)

pub hex-digits : (v : ℕ) → v < 2 ^ 64 → hex_of (digits_in 16 16 v) ≡ some v
unfolding hex_of
hex-digits v h = rw (length_digits 16 16 v) (number_digits 16 (lit≤ tt) (lit≤ tt) 16 v h)

-- and digits that are read as a number are its digits
taken : (b : Bool) (x : Option ℕ) (v : ℕ) → cond b x none ≡ some v → T b × (x ≡ some v)
taken true x v e = (tt, e)
taken false x v e = let z : ◌≡◌ {A = ℕ} 0 1 = cc in absurd (omega arith)

one-or : (a b : Bool) → T (a || not b) → (a ≡ true) ⊎ (b ≡ false)
one-or true b t = inl refl
one-or false true t = absurd t
one-or false false t = inr refl

leading : (v n : ℕ) → 1 ≤ n → (get_or (digits_in 10 n v) 0 0 ≡ 48 → ⊥) → 10 ^ (n - 1) ≤ v
unfolding digits_in
leading v zero h g = absurd (omega arith)
leading v (suc m) h g =
    let d : suc m - 1 ≡ m = omega arith in
    rw d (no_digit v m g)

below_power : (v n : ℕ) → v / 10 ^ n ≡ 0 → v < 10 ^ n
below_power v n e = rw one-mul at ((div-lt_iff_lt-mul {k = 10 ^ n} {x = v} {y = 1} (power_pos 10 n (lit≤ tt))).0 (omega arith))

read_wide : (d : List ℕ) (v : ℕ) → 1 ≤ length d → (length d ≡ 1) ⊎ (get_or d 0 0 ≡ 48 → ⊥) → From 10 0 v d → Wide v (length d)
read_wide d v s o f = record { least = s; below = below_power v (length d) f.left; above = go o }
  where
    go : (length d ≡ 1) ⊎ (get_or d 0 0 ≡ 48 → ⊥) → (length d ≡ 1) ⊎ (10 ^ (length d - 1) ≤ v)
    go (inl e) = inl e
    go (inr g) = inr (leading v (length d) s (λ e. g (ap (λ (l : List ℕ). get_or l 0 0) f.digits ∙ e)))

pub digits_decimal : (d : List ℕ) (v : ℕ) → decimal_of d ≡ some v → d ≡ digits_in 10 (width_of v) v
unfolding decimal_of
digits_decimal d v e =
    let one = eqb (length d) 1 || not (eqb (get_or d 0 0) 48) in
    let p = taken (leb 1 (length d) && (leb (length d) 10 && one)) (number_from 10 0 d) v e in
    let q = both (leb 1 (length d)) (leb (length d) 10 && one) p.0 in
    let r = both (leb (length d) 10) one q.1 in
    let filled : 1 ≤ length d = leb→le 1 (length d) q.0 in
    let short : length d ≤ 10 = leb→le (length d) 10 r.0 in
    let f : From 10 0 v d = from 10 (lit≤ tt) (lit≤ tt) 0 v d p.1 in
    let o : (length d ≡ 1) ⊎ (get_or d 0 0 ≡ 48 → ⊥) = ⊎_elim (λ t. inl (eqb-true (length d) 1 t)) (λ t. inr (eqb-false (get_or d 0 0) 48 t)) (one-or (eqb (length d) 1) (eqb (get_or d 0 0) 48) r.1) in
    let w : Wide v (length d) = read_wide d v filled o f in
    let small : v < 10000000000 = omega (arith, w.below, ten (length d) 10 short) in
    f.digits ∙ ap (λ (n : ℕ). digits_in 10 n v) (wide-unique v (length d) (width_of v) w (width-of v small))

pub digits-hex : (d : List ℕ) (v : ℕ) → hex_of d ≡ some v → (d ≡ digits_in 16 16 v) × (v < 2 ^ 64)
unfolding hex_of
digits-hex d v e = go (eqb (length d) 16) refl e
  where
    go : (b : Bool) → eqb (length d) 16 ≡ b → cond b (number_from 16 0 d) none ≡ some v → (d ≡ digits_in 16 16 v) × (v < 2 ^ 64)
    go true t e =
        let n : length d ≡ 16 = eqb-true (length d) 16 t in
        let f : From 16 0 v d = from 16 (lit≤ tt) (lit≤ tt) 0 v d e in
        let q : v / 16 ^ 16 ≡ 0 = rw n at f.left in
        (rw n at f.digits, omega arith)
    go false t e = let z : ◌≡◌ {A = ℕ} 0 1 = cc in absurd (omega arith)

-- a value has a digit
pub some-digits : (b : Bool) (d : List ℕ) (v : ℕ) → cond b (hex_of d) (decimal_of d) ≡ some v → 1 ≤ length d
unfolding hex_of decimal_of
some-digits b [] v e = absurd (go b e)
  where
    go : (b : Bool) → cond b (hex_of []) (decimal_of []) ≡ some v → ⊥
    go true e = let z : ◌≡◌ {A = ℕ} 0 1 = cc in omega arith
    go false e = let z : ◌≡◌ {A = ℕ} 0 1 = cc in omega arith
some-digits b (x ∷ d) v e = omega arith
