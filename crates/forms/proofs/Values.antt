-- A line and its value: each is the other's, and a line that has a value ends with its only line feed and is no remark.
use mathlib.Core.Path.{◌≡◌, refl, ap, ◌∙◌}
use mathlib.Core.Bool.{Bool, true, false, cond, not, ◌&&◌}
use mathlib.Core.List.{List, [], ◌∷◌, ◌++◌, append_assoc}
use mathlib.Core.Option.{some}
use Prim.Native.Nat.{ℕ, zero, suc, ◌+◌, ◌/◌, ◌%◌, ◌^◌, ◌<◌}
use native.Mathlib.Omega.{arith}
use lib.Dec.{T, ltb, eqb}
use borrow.Author.Tests.{ne_eqb}
use Rattle.model.proofs.Searches.{and-false}
use Rattle.forms.specs.Keys.{prefix_of}
use Rattle.forms.specs.Line.{lines, is_remark, value_part, decimal_of, hex_of, line_value}
use Rattle.forms.specs.Turns.{hashed, no_feeds}
use Rattle.forms.specs.Form.{line, is_hex, has_remarks}
use Rattle.forms.specs.Write.{digit_char, digits_in, width_of, value_digits, line_of}
use Rattle.forms.specs.declared.form.Form.{Form}
use Rattle.forms.specs.declared.form.Range.{Range}
use Rattle.forms.proofs.Keys.{key-no-feed, key-real}
use Rattle.forms.proofs.Lines.{own-part, part-line}
use Rattle.forms.proofs.Numbers.{some-digits, decimal-digits, hex-digits, digits_decimal, digits-hex}
use Rattle.forms.specs.declared.form.Key.{Key}
use Rattle.forms.proofs.Texts.{lines-line}

-- ---- a line that is written, read

pub value-of-line : (k : Key) (r : Range) (v : ℕ) → (is_hex r ≡ false → v < 10000000000) → (is_hex r ≡ true → v < 2 ^ 64) → line_value k r (line_of (line k r) v) ≡ some v
value-of-line k r v s h = go (is_hex r) refl
  where
    go : (b : Bool) → is_hex r ≡ b → line_value k r (line_of (line k r) v) ≡ some v
    go true e = rw (own-part (prefix_of k) (value_digits r v), e) (hex-digits v (h e))
    go false e = rw (own-part (prefix_of k) (value_digits r v), e) (decimal-digits v (s e))

-- ---- a line that is read, written

pub line-of-value : (k : Key) (r : Range) (l : List ℕ) (v : ℕ) → line_value k r l ≡ some v → l ≡ line_of (line k r) v
line-of-value k r l v e =
    part-line (prefix_of k) l (value_part (prefix_of k) l) (some-digits (is_hex r) _ v e) refl
    ∙ ap (λ (d : List ℕ). prefix_of k ++ (d ++ (10 ∷ []))) (go (is_hex r) e)
  where
    go : (b : Bool) → cond b (hex_of (value_part (prefix_of k) l)) (decimal_of (value_part (prefix_of k) l)) ≡ some v
        → value_part (prefix_of k) l ≡ cond b (digits_in 16 16 v) (digits_in 10 (width_of v) v)
    go true e = (digits-hex _ v e).0
    go false e = digits_decimal _ v e

-- ---- what is written has no line feed but at the end of each line

no-feeds-append : (x y : List ℕ) → T (no_feeds x) → T (no_feeds y) → T (no_feeds (x ++ y))
no-feeds-append [] y p q = q
no-feeds-append (b ∷ x) y p q = go (not (eqb b 10)) p (λ h. no-feeds-append x y h q)
  where
    go : (e : Bool) → T (e && no_feeds x) → (T (no_feeds x) → T (no_feeds (x ++ y))) → T (e && no_feeds (x ++ y))
    go true h f = f h
    go false h f = h

-- a digit's byte is none below that of `0`
char-other : (x b : ℕ) → b < 48 → eqb (digit_char x) b ≡ false
char-other x b h = go (ltb x 10)
  where
    go : (e : Bool) → eqb (cond e (48 + x) (87 + x)) b ≡ false
    go true = ne_eqb (48 + x) b (λ e. omega arith)
    go false = ne_eqb (87 + x) b (λ e. omega arith)

digits-no-feed : (base n v : ℕ) → T (no_feeds (digits_in base n v))
unfolding digits_in
digits-no-feed base zero v = tt
digits-no-feed base (suc n) v = rw (char-other (v / base ^ n % base) 10 (omega arith)) (digits-no-feed base n v)

value-no-feed : (r : Range) (v : ℕ) → T (no_feeds (value_digits r v))
value-no-feed r v = go (is_hex r)
  where
    go : (hex : Bool) → T (no_feeds (cond hex (digits_in 16 16 v) (digits_in 10 (width_of v) v)))
    go true = digits-no-feed 16 16 v
    go false = digits-no-feed 10 (width_of v) v

-- ---- what is written is no remark

real-append : (x y : List ℕ) → T (not (hashed x)) → T (not (hashed y)) → T (not (hashed (x ++ y)))
real-append [] y p q = q
real-append (b ∷ x) y p q = p

digits-real : (base n v : ℕ) → T (not (hashed (digits_in base n v)))
unfolding digits_in
digits-real base zero v = tt
digits-real base (suc n) v = rw (char-other (v / base ^ n % base) 35 (omega arith)) tt

value-real : (r : Range) (v : ℕ) → T (not (hashed (value_digits r v)))
value-real r v = go (is_hex r)
  where
    go : (hex : Bool) → T (not (hashed (cond hex (digits_in 16 16 v) (digits_in 10 (width_of v) v))))
    go true = digits-real 16 16 v
    go false = digits-real 10 (width_of v) v

line-real : (k : Key) (r : Range) (v : ℕ) → T (not (hashed (line_of (line k r) v)))
line-real k r v = real-append (prefix_of k) _ (key-real k) (real-append (value_digits r v) (10 ∷ []) (value-real r v) tt)

off : (b : Bool) → T (not b) → b ≡ false
off true t = absurd t
off false t = refl

-- nor is a line that has a value
pub value-real-line : (form : Form) (k : Key) (r : Range) (l : List ℕ) (v : ℕ) → line_value k r l ≡ some v → is_remark form l ≡ false
value-real-line form k r l v e =
    rw (line-of-value k r l v e, off (hashed (line_of (line k r) v)) (line-real k r v)) (and-false (has_remarks form))

-- ---- the lines of what is written

pub lines-written : (k : Key) (r : Range) (v : ℕ) (rest : List ℕ) → lines (line_of (line k r) v ++ rest) ≡ line_of (line k r) v ∷ lines rest
lines-written k r v rest =
    rw (← append_assoc (prefix_of k) (value_digits r v) (10 ∷ []))
    (lines-line (prefix_of k ++ value_digits r v) rest
    (no-feeds-append (prefix_of k) (value_digits r v) (key-no-feed k) (value-no-feed r v)))
