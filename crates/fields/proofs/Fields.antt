-- Laws of lines: fields in columns, how long they are, and what puts them.
use Prim.Native.Nat.{ℕ, ◌+◌, ◌-◌, ◌^◌, ◌≤◌, ◌<◌}
use mathlib.Core.Path.{◌≡◌, refl, sym, ap, ◌∙◌}
use mathlib.Core.List.{List, [], ◌∷◌, ◌++◌, append_assoc}
use native.Mathlib.Nat.{pow-le-pow_right}
use native.Mathlib.Omega.{arith}
use lib.Dec.{lit≤}
use lib.ListN.{length, replicate, take, drop, length-append, length-replicate, length-take, length-drop}
use Rattle.std.proofs.lemmas.Slice.{put_mid-paste}
use borrow.Rule.Slice.PartMut.{put_mid}
use Rattle.forms.specs.Write.{digit_char, digits_in, width_of}
use borrow.Author.Tests.{lt-ltb}
use Rattle.forms.proofs.Numbers.{length_digits, width-most}
use Rattle.lines.specs.Puts.{Puts}
use Rattle.lines.proofs.Writing.{put-end, puts-length, then-puts}
use Rattle.fields.specs.Columns.{right_in, in_columns, line, line_size, digits, numbers}
use Rattle.fields.specs.Inner.{Fits}

-- ---- bytes of a known length, put one after the other

pub record Put (s : List ℕ) (m at : ℕ) (out out' : List ℕ) (past : ℕ) : Type 0 where
  pub puts : Puts s at out out' past
  pub size : length s ≡ m
  pub same : length out' ≡ length out
  pub place : past ≡ at + m

pub put_first : {s : List ℕ} {m at : ℕ} {out out' : List ℕ} {past : ℕ} → length s ≡ m → at + m ≤ length out → Puts s at out out' past → Put s m at out out' past
put_first {s} h fits p = record { puts = p; size = h; same = puts-length (omega arith) p; place = omega (arith, p.place) }

pub put_next : {s t : List ℕ} {m n at : ℕ} {out out₁ out₂ : List ℕ} {a b : ℕ} → length t ≡ n → at + (m + n) ≤ length out → Put s m at out out₁ a → Puts t a out₁ out₂ b
    → Put (s ++ t) (m + n) at out out₂ b
put_next {s} {t} {m} {n} {at} {out} h fits p q =
    let size : length (s ++ t) ≡ m + n = omega (arith, length-append s t, p.size) in
    put_first size fits (then-puts (omega arith) p.puts q)

-- ---- a field

-- a space
abbrev space : ℕ
space = 32

-- a part that is filled
pub filled-puts : (out ys : List ℕ) (from n k x : ℕ) → k ≡ n → from + n ≤ length out → ys ≡ replicate (length (take k (drop from out))) x → Puts (replicate n x) from out (put_mid from k out ys) (from + n)
filled-puts out ys from n k x e h f =
    let size : length (replicate n x) ≡ n = length-replicate n x in
    let part : length (take k (drop from out)) ≡ n = simp (length-take, length-drop) (omega arith) in
    let all : ys ≡ replicate n x = f ∙ ap (λ (m : ℕ). replicate m x) part in
    record {
      place = omega arith;
      bytes = put_mid-paste from k out ys (replicate n x) (length (replicate n x)) all (omega arith) refl ∙ put-end out from (replicate n x);
    }

pub digits-length : (v : ℕ) → length (digits v) ≡ width_of v
unfolding digits
digits-length v = length_digits 10 (width_of v) v

pub right-length : (w : ℕ) (s : List ℕ) → length s ≤ w → length (right_in w s) ≡ w
unfolding right_in
right-length w s h = omega (arith, length-append (replicate (w - length s) 32) s, length-replicate (w - length s) space)

-- a number below 10^w fits a column of w
module _ (w v : ℕ) (one : 1 ≤ w) (most : w ≤ 10) (below : v < 10 ^ w) where
  pub number-width : width_of v ≤ w
  number-width = width-most v w one most below

  pub number-length : length (right_in w (digits v)) ≡ w
  number-length = right-length w (digits v) (omega (arith, digits-length v, number-width))

  pub number-puts : {at : ℕ} {out out₁ out₂ : List ℕ} {a b : ℕ} → at + w ≤ length out → Puts (replicate (w - width_of v) 32) at out out₁ a → Puts (digits_in 10 (width_of v) v) a out₁ out₂ b
      → Puts (right_in w (digits v)) at out out₂ b
  unfolding right_in digits
  number-puts {at} {out} fits p q =
      let d : length (digits_in 10 (width_of v) v) ≡ width_of v = length_digits 10 (width_of v) v in
      rw d (put_next d (omega (arith, number-width)) (put_first (length-replicate (w - width_of v) space) (omega arith) p) q).puts

-- the byte of a decimal digit
pub digit_char_lem : (d : ℕ) → d < 10 → 48 + d ≡ digit_char d
digit_char_lem d h = rw (lt-ltb d 10 h)

-- ---- a line

module _ (a b c d e : List ℕ) where
  abbrev fields : List (List ℕ)
  fields = a ∷ b ∷ c ∷ d ∷ e ∷ []

  pub line-fields : line fields ≡ ((((right_in 6 a ++ right_in 6 b) ++ right_in 10 c) ++ right_in 10 d) ++ right_in 10 e) ++ (10 ∷ [])
  unfolding line in_columns
  line-fields = sym (simp append_assoc)

  pub line-length : length a ≤ 6 → length b ≤ 6 → length c ≤ 10 → length d ≤ 10 → length e ≤ 10 → length (line fields) ≡ line_size
  line-length ha hb hc hd he =
      ap length line-fields
      ∙ simp (length-append, right-length 6 a ha, right-length 6 b hb, right-length 10 c hc, right-length 10 d hd, right-length 10 e he)

module _ {a b c d e : ℕ} (f : Fits a b c d e) where
  pub numbers-length : length (line (numbers a b c d e)) ≡ line_size
  unfolding numbers
  numbers-length =
      line-length (digits a) (digits b) (digits c) (digits d) (digits e)
      (fits 6 a (lit≤ tt) (lit≤ tt) f.first) (fits 6 b (lit≤ tt) (lit≤ tt) f.second) (fits 10 c (lit≤ tt) (lit≤ tt) f.third) (fits 10 d (lit≤ tt) (lit≤ tt) f.fourth) (fits 10 e (lit≤ tt) (lit≤ tt) f.fifth)
    where
      fits : (w v : ℕ) → 1 ≤ w → w ≤ 10 → v < 10 ^ w → length (digits v) ≤ w
      fits w v one most below = omega (arith, digits-length v, number-width w v one most below)

-- a number of at most 10 digits
pub below-ten : (w v : ℕ) → w ≤ 10 → v < 10 ^ w → v < 10000000000
below-ten w v most below = omega (arith, pow-le-pow_right {n = 10} (lit≤ tt) most)
