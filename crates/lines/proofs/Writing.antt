-- Laws of writing: bytes put at a place, one after the other, and digits from the last to the first.
use mathlib.Core.Path.{◌≡◌, refl, sym, ap, ◌∙◌}
use mathlib.Core.List.{List, [], ◌∷◌, ◌++◌, append_assoc}
use Prim.Native.Nat.{ℕ, suc, ◌+◌, ◌-◌, ◌/◌, ◌%◌, ◌^◌, ◌≤◌, ◌<◌}
use native.Mathlib.Nat.{add-zero, zero-add, add_assoc, pow-zero, pow-suc, div-one, div-div-eq-div-mul, sub_self}
use native.Mathlib.Numerals.{add-one}
use native.Mathlib.Omega.{arith}
use lib.Dec.{lit≤}
use lib.ListN.{take-append-drop, length, get_or, take, drop, set, length-append, length-take, length-drop}
use lib.Seq.{take-append-le, length-take-le, take-take, take_at, drop_at, drop-drop, set_split, take-length, paste, paste-suc}
use borrow.Author.Tests.{lt-ltb}
use Rattle.model.specs.Outcome.{good}
use Rattle.lists.specs.Answers.{done, with_room, lent}
use Rattle.lists.specs.declared.Answer.TheVariants.{Done}
use Rattle.lists.proofs.Rooms.{give_all}
use Rattle.forms.specs.Write.{digit_char, digits_in, width_of}
use Rattle.forms.proofs.Numbers.{length_digits}
use Rattle.lines.specs.Puts.{placed, Puts}
use Rattle.lines.proofs.Digits.{digits-split, width-split}

-- ---- bytes put at a place

-- a turn of the loop that puts bytes at a place, and its end
pub put_step : (d : List ℕ) (at : ℕ) (s : List ℕ) (j : ℕ) → at + j < length d → j < length s
    → set (paste d at s j) (at + j) (get_or s j 0) ≡ paste d at s (j + 1)
put_step d at s j hd hs = rw add-one (paste-suc d at s j 0 hd hs)

pub put-end : (d : List ℕ) (at : ℕ) (s : List ℕ) → paste d at s (length s) ≡ placed d at s
unfolding placed
put-end d at s = rw (take-length s) (append_assoc (take at d) s (drop (at + length s) d))

-- bytes put at a place, and others after them
length-placed : (out : List ℕ) (at : ℕ) (s : List ℕ) → at + length s ≤ length out → length (placed out at s) ≡ length out
unfolding placed
length-placed out at s h = simp (length-append, length-take, length-drop) (omega arith)

placed-more : (out : List ℕ) (at : ℕ) (s t : List ℕ) → at + length s + length t ≤ length out
    → placed (placed out at s) (at + length s) t ≡ placed out at (s ++ t)
unfolding placed
placed-more out at s t h =
    let p = take at out in
    let r = drop (at + length s) out in
    let size : length (p ++ s) ≡ at + length s = rw (length-append, length-take-le at out (omega arith)) in
    let front : take (at + length s) (p ++ (s ++ r)) ≡ p ++ s = rw (← append_assoc p s r) (take_at (p ++ s) r (at + length s) size) in
    let back : drop (at + length s + length t) (p ++ (s ++ r)) ≡ drop (at + length (s ++ t)) out = rw (← append_assoc p s r, ← drop-drop (length t) (at + length s) (p ++ s ++ r), drop_at (p ++ s) r (at + length s) size, drop-drop, length-append, add_assoc) in
    rw (front, back, append_assoc p s, append_assoc s t)

placed-none : (out : List ℕ) (at : ℕ) → out ≡ placed out at []
unfolding placed
placed-none out at = sym (rw add-zero (take-append-drop at out))

pub placed-front : (out s : List ℕ) → placed out 0 s ≡ s ++ drop (length s) out
unfolding placed
placed-front out s = rw zero-add

-- a byte before those that are put already
placed-before : (out : List ℕ) (j x : ℕ) (s : List ℕ) → j + 1 + length s ≤ length out → set (placed out (j + 1) s) j x ≡ placed out j (x ∷ s)
unfolding placed
placed-before out j x s h =
    let r = s ++ drop (j + 1 + length s) out in
    let size : length (take (j + 1) out) ≡ j + 1 = length-take-le (j + 1) out (omega arith) in
    let front : take j (take (j + 1) out ++ r) ≡ take j out = take-append-le j (take (j + 1) out) r (omega arith) ∙ take-take j (j + 1) out (omega arith) in
    let back : drop (suc j) (take (j + 1) out ++ r) ≡ r = drop_at (take (j + 1) out) r (suc j) (omega arith) in
    let less : j < length (take (j + 1) out ++ r) = simp length-append (omega arith) in
    let e : j + 1 + length s ≡ j + suc (length s) = omega arith in
    set_split (take (j + 1) out ++ r) j x less ∙ rw (front, back, e)

-- a byte that is stored
stored : (out : List ℕ) (j x : ℕ) → j < length out → set out j x ≡ placed out j (x ∷ [])
unfolding placed
stored out j x h = rw add-one (set_split out j x h)

-- ---- bytes put one after the other

-- nothing is put
pub puts_none : (at : ℕ) (out : List ℕ) → Puts [] at out out at
puts_none at out = record { place = omega arith; bytes = placed-none out at }

pub puts-byte : (out : List ℕ) (at x : ℕ) → at < length out → Puts (x ∷ []) at out (set out at x) (at + 1)
puts-byte out at x h = record { place = refl; bytes = stored out at x h }

pub puts-length : {s : List ℕ} {at : ℕ} {out out' : List ℕ} {past : ℕ} → at + length s ≤ length out → Puts s at out out' past → length out' ≡ length out
puts-length {s} {at} {out} h p = ap length p.bytes ∙ length-placed out at s h

pub then-fits : {s : List ℕ} {at : ℕ} {out out₁ : List ℕ} {a : ℕ} (t : List ℕ) → at + length (s ++ t) ≤ length out → Puts s at out out₁ a → a + length t ≤ length out₁
then-fits {s} t fits p =
    let n = length-append s t in
    omega (arith, p.place, puts-length (omega arith) p)

pub then-puts : {s t : List ℕ} {at : ℕ} {out out₁ out₂ : List ℕ} {a b : ℕ} → at + length (s ++ t) ≤ length out → Puts s at out out₁ a → Puts t a out₁ out₂ b
    → Puts (s ++ t) at out out₂ b
then-puts {s} {t} {at} {out} fits p q =
    let n = length-append s t in
    record {
      place = omega (arith, p.place, q.place);
      bytes = q.bytes ∙ rw (p.bytes, p.place) (placed-more out at s t (omega arith));
    }

-- bytes that are put at the front, as it is said of an operation
pub given : (s out : List ℕ) {out' : List ℕ} {past : ℕ} → length s ≤ length out → Puts s 0 out out' past
    → (Done past ≡ done (with_room (length out) (good s))) × (out' ≡ lent (with_room (length out) (good s)) out)
given s out h p =
    let g = give_all s out h in
    (ap Done (p.place ∙ zero-add (length s)) ∙ sym g.0, p.bytes ∙ placed-front out s ∙ sym g.1)

-- ---- decimal digits, from the first to the last

pub digit-byte : (x : ℕ) → x < 10 → digits_in 10 1 x ≡ (48 + x) ∷ []
unfolding digits_in
digit-byte x h =
    let e : x / 1 % 10 ≡ x = omega arith in
    rw (e, lt-ltb x 10 h)

-- m digits, and n more
module _ (m n v : ℕ) {at : ℕ} {out out₁ : List ℕ} {a : ℕ} (fits : at + (m + n) ≤ length out) (p : Puts (digits_in 10 m (v / 10 ^ n)) at out out₁ a) where
  both-fit : at + length (digits_in 10 m (v / 10 ^ n) ++ digits_in 10 n (v % 10 ^ n)) ≤ length out
  both-fit = rw (digits-split 10 (lit≤ tt) m n v, length_digits 10 (m + n) v) fits

  pub digits-fit : a + n ≤ length out₁
  digits-fit = rw (length_digits 10 n (v % 10 ^ n)) at (then-fits (digits_in 10 n (v % 10 ^ n)) both-fit p)

  pub digits-put : {out₂ : List ℕ} {b : ℕ} → Puts (digits_in 10 n (v % 10 ^ n)) a out₁ out₂ b → Puts (digits_in 10 (m + n) v) at out out₂ b
  digits-put q = rw (digits-split 10 (lit≤ tt) m n v) at (then-puts both-fit p q)

-- a number of more than 4 digits: those of its quotient by 10000, and 4 more
module _ (v : ℕ) {at : ℕ} {out out₁ : List ℕ} {a : ℕ} (large : 10000 ≤ v) (small : v < 10000000000) (fits : at + width_of v ≤ length out)
    (p : Puts (digits_in 10 (width_of (v / 10000)) (v / 10000)) at out out₁ a) where
  width-is-more : width_of (v / 10000) + 4 ≡ width_of v
  width-is-more = omega (arith, width-split v large small)

  pub four-fit : a + 4 ≤ length out₁
  four-fit = digits-fit (width_of (v / 10000)) 4 v (rw width-is-more fits) p

  pub four-put : {out₂ : List ℕ} {b : ℕ} → Puts (digits_in 10 4 (v % 10000)) a out₁ out₂ b → Puts (digits_in 10 (width_of v) v) at out out₂ b
  four-put q = rw width-is-more at (digits-put (width_of (v / 10000)) 4 v (rw width-is-more fits) p q)

-- ---- digits, from the last to the first

digits_more : (base n v x : ℕ) → x ≡ v / base ^ n → digit_char (x % base) ∷ digits_in base n v ≡ digits_in base (suc n) v
unfolding digits_in
digits_more base n v x e = rw e

quotient-more : (base n v x : ℕ) → x ≡ v / base ^ n → x / base ≡ v / base ^ suc n
quotient-more base n v x e = rw (e, pow-suc) (div-div-eq-div-mul v (base ^ n) base)

-- at the start nothing is put
module _ (out : List ℕ) (at base n v : ℕ) where
  pub digits-start : (v ≡ v / base ^ (n - n)) × (out ≡ placed out (at + n) (digits_in base (n - n) v))
  unfolding digits_in
  digits-start = (rw (sub_self n, pow-zero) (sym (div-one v)), rw (sub_self n) (placed-none out (at + n)))

  -- a turn, at i
  pub digits-turn : (i x c : ℕ) → 0 < i → i ≤ n → at + n ≤ length out → x ≡ v / base ^ (n - i) → c ≡ digit_char (x % base)
      → (x / base ≡ v / base ^ (n - (i - 1))) × (set (placed out (at + i) (digits_in base (n - i) v)) (at + (i - 1)) c ≡ placed out (at + (i - 1)) (digits_in base (n - (i - 1)) v))
  digits-turn i x c some within fits left e =
      let m : n - (i - 1) ≡ suc (n - i) = omega arith in
      let j : at + i ≡ at + (i - 1) + 1 = omega arith in
      let h : at + (i - 1) + 1 + length (digits_in base (n - i) v) ≤ length out = rw (length_digits base (n - i) v) (omega arith) in (
        rw m (quotient-more base (n - i) v x left),
        rw (m, j) (placed-before out (at + (i - 1)) c (digits_in base (n - i) v) h ∙ ap (λ (s : List ℕ). placed out (at + (i - 1)) s) (rw e (digits_more base (n - i) v x left))),
      )
