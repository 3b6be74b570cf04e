-- Laws of decimal digits: a number's digits as those of its parts, and how many it has.
use mathlib.Core.Path.{◌≡◌, refl, ap}
use mathlib.Core.List.{List, ◌∷◌, ◌++◌}
use mathlib.Core.Logic.{◌⊎◌, inl, inr}
use Prim.Native.Nat.{ℕ, zero, suc, ◌+◌, ◌-◌, ◌/◌, ◌%◌, ◌^◌, ◌≤◌, ◌<◌}
use native.Mathlib.Nat.{zero-add, suc-add, mul_comm, mod-lt, div-div-eq-div-mul, pow-le-pow_right, pow-zero, pow-suc}
use native.Mathlib.Decide.{dec_lt}
use native.Mathlib.Omega.{arith}
use lib.Arith.{mod-mul, digits_mod, digits_div}
use lib.Pow.{pow-add}
use Rattle.forms.specs.Write.{digit_char, digits_in, width_of}
use Rattle.forms.proofs.Numbers.{width_is}

module _ (base : ℕ) (pos : 0 < base) where
  power_pos : (n : ℕ) → 0 < base ^ n
  power_pos n =
      let z : 0 ≤ n = omega arith in
      let e : base ^ 0 ≤ base ^ n = pow-le-pow_right pos z in
      rw pow-zero at e

  -- digit n of a number's last digits is its own
  digit-of-rest : (j n v : ℕ) → v % base ^ (suc j + n) / base ^ n % base ≡ v / base ^ n % base
  digit-of-rest j n v =
      let x : ℕ = v / base ^ n in
      rw (pow-add base (suc j) n, mod-mul v (power_pos (suc j)) (power_pos n), digits_div (v / base ^ n % base ^ suc j) (mod-lt v (power_pos n)), pow-suc, mod-mul (v / base ^ n) (power_pos j) pos)
      (digits_mod (v / base ^ n / base % base ^ j) (mod-lt (v / base ^ n) pos))

  -- the last n digits of what the last j + n leave
  digits-rest : (j n v : ℕ) → digits_in base n (v % base ^ (j + n)) ≡ digits_in base n v
  unfolding digits_in
  digits-rest j zero v = refl
  digits-rest j (suc n) v =
      let e : j + suc n ≡ suc j + n = omega arith in
      rw (e, digit-of-rest j n v) (ap (λ (d : List ℕ). digit_char (v / base ^ n % base) ∷ d) (digits-rest (suc j) n v))

  -- a number's digits: those of the quotient by a power, and then those of the remainder
  pub digits-split : (m n v : ℕ) → digits_in base m (v / base ^ n) ++ digits_in base n (v % base ^ n) ≡ digits_in base (m + n) v
  unfolding digits_in
  digits-split zero n v = rw (zero-add n) (rw (zero-add n) at (digits-rest 0 n v))
  digits-split (suc m) n v =
      rw (suc-add m n, div-div-eq-div-mul v (base ^ n) (base ^ m), mul_comm (base ^ n) (base ^ m), ← pow-add base m n)
      (ap (λ (d : List ℕ). digit_char (v / base ^ (m + n) % base) ∷ d) (digits-split m n v))

-- a number of more than 4 digits has 4 more than its quotient by 10000
module _ (v : ℕ) (h : 10000 ≤ v) (k : v < 10000000000) where
  by_width : (m : ℕ) → 1 ≤ m → 4 + m ≤ 10 → v / 10000 < 10 ^ m → (m ≡ 1) ⊎ (10 ^ (m - 1) ≤ v / 10000) → v < 10 ^ (4 + m) → 10 ^ (4 + m - 1) ≤ v
      → width_of v ≡ 4 + width_of (v / 10000)
  by_width m one most a b c d =
      rw (width_is v (4 + m) (omega arith) most c (inr d), width_is (v / 10000) m one (omega arith) a b)

  pub width-split : width_of v ≡ 4 + width_of (v / 10000)
  width-split = five (dec_lt v 100000)
    where
      nine : 100000000 ≤ v → Dec (v < 1000000000) → width_of v ≡ 4 + width_of (v / 10000)
      nine g (yes l) = by_width 5 (omega arith) (omega arith) (omega arith) (inr (omega arith)) l g
      nine g (no l) = by_width 6 (omega arith) (omega arith) (omega arith) (inr (omega arith)) k (omega arith)

      eight : 10000000 ≤ v → Dec (v < 100000000) → width_of v ≡ 4 + width_of (v / 10000)
      eight g (yes l) = by_width 4 (omega arith) (omega arith) (omega arith) (inr (omega arith)) l g
      eight g (no l) = nine (omega arith) (dec_lt v 1000000000)

      seven : 1000000 ≤ v → Dec (v < 10000000) → width_of v ≡ 4 + width_of (v / 10000)
      seven g (yes l) = by_width 3 (omega arith) (omega arith) (omega arith) (inr (omega arith)) l g
      seven g (no l) = eight (omega arith) (dec_lt v 100000000)

      six : 100000 ≤ v → Dec (v < 1000000) → width_of v ≡ 4 + width_of (v / 10000)
      six g (yes l) = by_width 2 (omega arith) (omega arith) (omega arith) (inr (omega arith)) l g
      six g (no l) = seven (omega arith) (dec_lt v 10000000)

      five : Dec (v < 100000) → width_of v ≡ 4 + width_of (v / 10000)
      five (yes l) = by_width 1 (omega arith) (omega arith) (omega arith) (inl refl) l h
      five (no l) = six (omega arith) (dec_lt v 1000000)
