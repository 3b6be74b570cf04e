-- How many decimal digits a number has, and how long the lines are.
use Prim.Native.Nat.{ℕ, ◌+◌, ◌-◌, ◌*◌, ◌/◌, ◌%◌, ◌^◌, ◌≤◌, ◌<◌}
use mathlib.Core.Path.{◌≡◌, sym, ap}
use mathlib.Core.Logic.{◌⊎◌}
use mathlib.Core.List.{List, [], ◌∷◌, ◌++◌}
use native.Mathlib.Nat.{pow-zero, pow-suc, pow-le-pow_right, mul-le-mul_left, div-div-eq-div-mul}
use native.Mathlib.Numerals.{add-one}
use native.Mathlib.Decide.{dec_lt}
use native.Mathlib.Omega.{arith}
use borrow.Author.Tests.{lt-ltb}
use lib.Dec.{lit≤}
use lib.ListN.{length, length-append}
use Rattle.forms.specs.Write.{digit_char, width_from}
use Rattle.forms.proofs.Numbers.{length_digits, width-from, width_same}
use Rattle.lines.specs.Puts.{Puts}
use Rattle.lines.proofs.Writing.{puts-length}
use Rattle.report.specs.Printed.{decimal, printed_line}

-- ---- how many digits there are, counted by tens

ten_pos : (k : ℕ) → 0 < 10 ^ k
ten_pos k =
    let z : 0 ≤ k = omega arith in
    let e : 10 ^ 0 ≤ 10 ^ k = pow-le-pow_right (lit≤ tt) z in
    rw pow-zero at e

pub tenth : (v k rest : ℕ) → rest ≡ v / 10 ^ k → rest / 10 ≡ v / 10 ^ (k + 1)
tenth v k rest e = rw (e, add-one, pow-suc) (div-div-eq-div-mul v (10 ^ k) 10)

-- where something is left of a number below 10^20 after k digits, it has more, and k is below 20
module _ (v k : ℕ) (left : 0 < v / 10 ^ k) where
  pub reaches : 10 ^ k ≤ v
  reaches = omega (arith, mul-le-mul_left (10 ^ k) left)

  pub below-twenty : v < 10 ^ 20 → k < 20
  below-twenty small = go (dec_lt k 20)
    where
      go : Dec (k < 20) → k < 20
      go (yes h) = h
      go (no h) =
          let m : 20 ≤ k = omega arith in
          let e : 10 ^ 20 ≤ 10 ^ k = pow-le-pow_right (lit≤ tt) m in
          absurd (omega (arith, reaches, small, e))

pub counted : (v k : ℕ) → v < 10 ^ 20 → 1 ≤ k → v / 10 ^ k ≡ 0 → (k ≡ 1) ⊎ (10 ^ (k - 1) ≤ v) → k ≡ width_from 19 1 v
counted v k small some none above =
    let below : v < 10 ^ k = omega (arith, ten_pos k, ap (λ q. 10 ^ k * q) none) in
    sym (width_same 19 v k small some below above)

-- ---- digits, and lines

pub digit-byte : (x : ℕ) → 48 + x % 10 ≡ digit_char (x % 10)
digit-byte x = let h : x % 10 < 10 = omega arith in rw (lt-ltb (x % 10) 10 h)

pub decimal-most : (v : ℕ) → length (decimal v) ≤ 20
unfolding decimal
decimal-most v = omega (arith, length_digits 10 (width_from 19 1 v) v, width-from 19 1 v)

pub line-most : (key : List ℕ) (v : ℕ) → length (printed_line key v) ≤ length key + 21
line-most key v = omega (arith, length-append key (decimal v ++ (10 ∷ [])), length-append (decimal v) (10 ∷ []), decimal-most v)

-- ---- the lines of a refusal, of which the keys have 8, 6 and 7 bytes

module _ (key : List ℕ) (most : ℕ) (e : length key ≡ most) (v : ℕ) {at past : ℕ} {out out' : List ℕ} (room : at + (most + 21) ≤ length out) (p : Puts (printed_line key v) at out out' past) where
  pub line-past : past ≤ at + (most + 21)
  line-past = omega (arith, p.place, line-most key v, e)

  pub line-length : length out' ≡ length out
  line-length = puts-length (omega (arith, room, line-most key v, e)) p
