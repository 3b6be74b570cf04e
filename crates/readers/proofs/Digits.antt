-- Laws of the digits after a key: what the digits so far come to, and what the line's value is, by the byte after them.
use Rattle.std.proofs.Common.{◌≡◌, ℕ, zero, suc, ◌+◌, ◌-◌, ◌*◌, ◌^◌, ◌<◌, ◌≤◌, Bool, true, false, cond, not, ◌&&◌, ◌||◌, ◌⊎◌, eqb, ltb, leb, List, [], ◌∷◌, ◌++◌, length, get_or, take, drop, sym, refl, ap, ◌∙◌, ⊎_elim, inl, inr, le_trans, lt_of_lt_of_le, pow-suc, add-one, zero-add, arith, drop_of_length-le, length-take, length-take-le, take_all, get_or-take, ltb-false, le-ltb, lt-ltb, eq-eqb, ne_eqb, eqb-true, le-leb}
use mathlib.Core.Option.{Option, none, some}
use native.Mathlib.Decide.{dec_lt, ℕ_discrete}
use native.Mathlib.Nat.{pow-zero, pow-le-pow_right}
use lib.Arith.{digits_lt}
use borrow.Author.Tests.{eqb-false, lt-leb}
use Rattle.forms.specs.Line.{before_feed, digit_of, number_from, decimal_of, hex_of}
use Rattle.forms.proofs.Lines.{own-feed}
use Rattle.forms.proofs.Walks.{step}
use Rattle.readers.specs.Line.{line_len, first_line, bytes_before, unfed, value_first, number_of, DigitsTo, Leading}

-- ---- the byte at i: a line feed, another byte, or none

module _ (t : List ℕ) (i : ℕ) where
  pub feed-none : length t ≤ i → bytes_before (drop i t) ≡ 0
  unfolding bytes_before
  feed-none h = rw (drop_of_length-le t h)

  module _ (h : i < length t) where
    pub feed-here : get_or t i 0 ≡ 10 → bytes_before (drop i t) ≡ 0
    unfolding bytes_before
    feed-here e = rw (step t i h, eq-eqb (get_or t i 0) 10 e)

    pub feed-later : (get_or t i 0 ≡ 10 → ⊥) → bytes_before (drop i t) ≡ suc (bytes_before (drop (i + 1) t))
    unfolding bytes_before
    feed-later e = rw (step t i h, ne_eqb (get_or t i 0) 10 e)

    module _ (base v : ℕ) where
      digits-end : get_or t i 0 ≡ 10 → number_from base v (unfed (drop i t)) ≡ some v
      unfolding number_from
      digits-end e = rw (feed-here e)

      digit-none : (get_or t i 0 ≡ 10 → ⊥) → base ≤ digit_of (get_or t i 0) → number_from base v (unfed (drop i t)) ≡ none
      unfolding number_from
      digit-none e d = rw (feed-later e, step t i h, le-ltb (digit_of (get_or t i 0)) base d)

      digit-more : (get_or t i 0 ≡ 10 → ⊥) → (x : ℕ) → digit_of (get_or t i 0) ≡ x → x < base → number_from base v (unfed (drop i t)) ≡ number_from base (v * base + x) (unfed (drop (i + 1) t))
      unfolding number_from
      digit-more e x is d = rw (feed-later e, step t i h, is, lt-ltb x base d)

-- ---- the value of a byte as a digit

module _ (b : ℕ) where
  pub digit-decimal : 48 ≤ b → b ≤ 57 → digit_of b ≡ b - 48
  unfolding digit_of
  digit-decimal l h = rw (le-ltb b 48 l, le-leb b 57 h)

  -- below `0` or above `9`
  digit-beyond : (b < 48) ⊎ (57 < b) → digit_of b ≡ cond (ltb b 97) 16 (cond (leb b 102) (b - 87) 16)
  unfolding digit_of
  digit-beyond o = ⊎_elim (λ k. rw (lt-ltb b 48 k, lt-ltb b 97 (omega arith))) (λ k. rw (le-ltb b 48 (omega arith), lt-leb b 57 k)) o

  pub digit-above : (b < 48) ⊎ (57 < b) → 10 ≤ digit_of b
  digit-above o = rw (digit-beyond o) (go (ltb b 97) (leb b 102) refl)
    where
      go : (p q : Bool) → ltb b 97 ≡ p → 10 ≤ cond p 16 (cond q (b - 87) 16)
      go true q e = omega arith
      go false true e = omega (arith, ltb-false b 97 e)
      go false false e = omega arith

  -- below `0` or above `f`
  pub digit-outside : (b < 48) ⊎ (102 < b) → digit_of b ≡ 16
  digit-outside o = digit-beyond (⊎_elim (λ k. inl k) (λ k. inr (omega arith)) o) ∙ ⊎_elim (λ k. rw (lt-ltb b 97 (omega arith))) (λ k. rw (le-ltb b 97 (omega arith), lt-leb b 102 k)) o

-- none is a line feed
no-feed : (b x : ℕ) → digit_of b ≡ x → x < 16 → b ≡ 10 → ⊥
unfolding digit_of
no-feed b x is h e = let k : digit_of 10 ≡ x = rw e at is in omega arith

-- ---- digits so far, and one more

digit-fits : (base v x i : ℕ) → v < base ^ i → x < base → v * base + x < base ^ (i + 1)
digit-fits base v x i h d = rw (add-one, pow-suc) (digits_lt h d)

module _ (base : ℕ) (text : List ℕ) where
  pub digits-start : DigitsTo base text 0 0
  digits-start = record { within = omega arith; below = rw (pow-zero base) (omega arith); before = sym (zero-add (bytes_before text)); number = refl }

  module _ (v i x : ℕ) (d : DigitsTo base text v i) (h : i < length text) (is : digit_of (get_or text i 0) ≡ x) (less : x < base) where
    pub digits_more : base ≤ 16 → DigitsTo base text (v * base + x) (i + 1)
    digits_more b =
        let other = no-feed (get_or text i 0) x is (omega arith) in
        record {
          within = omega arith;
          below = digit-fits base v x i d.below less;
          before = omega (arith, d.before, feed-later text i h other);
          number = d.number ∙ digit-more text i h base v other x is less;
        }

    -- the number fits where as many digits do
    pub digit_room : (n : ℕ) → i < n → 0 < base → base ^ n ≤ 2 ^ 64 → v * base + x < 2 ^ 64
    digit_room n near pos room =
        lt_of_lt_of_le (digit-fits base v x i d.below less) (le_trans (pow-le-pow_right pos (omega arith)) room)

-- decimal digits that are not followed by another one
pub leading : (text : List ℕ) (v n : ℕ) → DigitsTo 10 text v n → n ≤ 10 → (n < length text → (10 ≤ digit_of (get_or text n 0)) ⊎ (10 ≤ n)) → Leading text v (take n text)
leading text v n d few ends =
    let size : length (take n text) ≡ n = length-take-le n text d.within in
    record { first = ap (λ (m : ℕ). take m text) (sym size); digits = rw size d; few = rw size few; ends = rw size ends }

-- ---- what stands before the line feed

-- a first line with a line feed is what stands before it, and the line feed
pub feed-first : (t : List ℕ) → bytes_before t < length t → first_line t ≡ take (bytes_before t) t ++ (10 ∷ [])
unfolding bytes_before line_len
feed-first [] h = absurd (omega arith)
feed-first (b ∷ t) h = go (eqb b 10) refl h (feed-first t)
  where
    go : (e : Bool) → eqb b 10 ≡ e → cond e 0 (suc (bytes_before t)) < suc (length t) → (bytes_before t < length t → first_line t ≡ take (bytes_before t) t ++ (10 ∷ []))
        → take (cond e 1 (suc (line_len t))) (b ∷ t) ≡ take (cond e 0 (suc (bytes_before t))) (b ∷ t) ++ (10 ∷ [])
    go true e h f = ap (λ (x : ℕ). x ∷ []) (eqb-true b 10 e)
    go false e h f = ap (λ (x : List ℕ). b ∷ x) (f (omega arith))

-- and one without is the whole text, and has none
feedless : (t : List ℕ) (i : ℕ) → i < bytes_before t → get_or t i 0 ≡ 10 → ⊥
unfolding bytes_before
feedless [] i h e = omega arith
feedless (b ∷ t) i h e = go (eqb b 10) refl i h (feedless t) e
  where
    go : (x : Bool) → eqb b 10 ≡ x → (i : ℕ) → i < cond x 0 (suc (bytes_before t)) → ((j : ℕ) → j < bytes_before t → get_or t j 0 ≡ 10 → ⊥) → get_or (b ∷ t) i 0 ≡ 10 → ⊥
    go true x i h f e = omega arith
    go false x zero h f e = eqb-false b 10 x e
    go false x (suc i) h f e = f i (omega arith) e

whole-line : (t : List ℕ) → length t ≤ bytes_before t → length t ≤ line_len t
unfolding bytes_before line_len
whole-line [] h = omega arith
whole-line (b ∷ t) h = go (eqb b 10) h (whole-line t)
  where
    go : (e : Bool) → suc (length t) ≤ cond e 0 (suc (bytes_before t)) → (length t ≤ bytes_before t → length t ≤ line_len t) → suc (length t) ≤ cond e 1 (suc (line_len t))
    go true h f = absurd (omega arith)
    go false h f = let k = f (omega arith) in omega arith

open_none : before_feed (first_line []) ≡ []
unfolding before_feed line_len
open_none = refl

open-line : (t : List ℕ) → length t ≤ bytes_before t → before_feed (first_line t) ≡ []
unfolding before_feed
open-line [] h = open_none
open-line (b ∷ t) h =
    rw (take_all (line_len (b ∷ t)) (b ∷ t) (whole-line (b ∷ t) h), ne_eqb (get_or (b ∷ t) (suc (length t) - 1) 0) 10 (feedless (b ∷ t) (suc (length t) - 1) (omega arith)))

pub no-digits : (hex : Bool) → number_of hex [] ≡ none
unfolding hex_of decimal_of
no-digits true = refl
no-digits false = refl

-- the value has no digits, or is all that stands before the line feed
pub part-closed : (t : List ℕ) → bytes_before t < length t → before_feed (first_line t) ≡ unfed t
part-closed t h = rw (feed-first t h) (own-feed (unfed t))

pub by_part : (t : List ℕ) (P : List ℕ → Type 0) → P [] → (bytes_before t < length t → length (unfed t) ≡ bytes_before t → P (unfed t)) → P (before_feed (first_line t))
by_part t P e f = go (dec_lt (bytes_before t) (length t))
  where
    go : Dec (bytes_before t < length t) → P (before_feed (first_line t))
    go (yes h) = rw (part-closed t h) (f h (length-take-le (bytes_before t) t (omega arith)))
    go (no h) = rw (open-line t (omega arith)) e

-- the value is the first part of the text
module _ (text : List ℕ) where
  -- digits and then a line feed
  pub record Closed (base v i : ℕ) : Type 0 where
    pub part : value_first text ≡ unfed text
    pub count : length (unfed text) ≡ i
    pub number : number_from base 0 (unfed text) ≡ some v
    pub first : take i text ≡ value_first text

  module _ (base v i : ℕ) (d : DigitsTo base text v i) (h : i < length text) (e : get_or text i 0 ≡ 10) where
    pub closed : Closed base v i
    closed =
        let n : bytes_before text ≡ i = omega (arith, d.before, feed-here text i h e) in
        let part : value_first text ≡ unfed text = part-closed text (omega arith) in
        record {
          part = part;
          count = length-take-le (bytes_before text) text (omega arith) ∙ n;
          number = d.number ∙ digits-end text i h base v e;
          first = ap (λ (m : ℕ). take m text) (sym n) ∙ sym part;
        }

-- ---- in decimal

decimal-bad : (d : List ℕ) → number_from 10 0 d ≡ none → decimal_of d ≡ none
unfolding decimal_of
decimal-bad d e = rw e (go (leb 1 (length d) && (leb (length d) 10 && (eqb (length d) 1 || not (eqb (get_or d 0 0) 48)))))
  where
    go : (b : Bool) → ◌≡◌ {A = Option ℕ} (cond b none none) none
    go true = refl
    go false = refl

decimal-long : (d : List ℕ) → 10 < length d → decimal_of d ≡ none
unfolding decimal_of
decimal-long d h = rw (le-leb 1 (length d) (omega arith), lt-leb (length d) 10 h)

decimal-empty : (d : List ℕ) → length d ≡ 0 → decimal_of d ≡ none
unfolding decimal_of
decimal-empty d h = rw (lt-leb 1 (length d) (omega arith))

module _ (text : List ℕ) (v : ℕ) (part : List ℕ) (r : Leading text v part) where
  -- the text stops, or another byte follows than a line feed
  pub decimal-cut : length part ≡ length text → decimal_of (value_first text) ≡ none
  decimal-cut e =
      by_part text (λ d. decimal_of d ≡ none) (no-digits false)
      (λ h s. absurd (omega (arith, h, r.digits.before, feed-none text (length part) (omega arith))))

  pub decimal-other : length part < length text → (get_or text (length part) 0 ≡ 10 → ⊥) → decimal_of (value_first text) ≡ none
  decimal-other k o =
      by_part text (λ d. decimal_of d ≡ none) (no-digits false) (λ h s.
      ⊎_elim (λ b. decimal-bad (unfed text) (r.digits.number ∙ digit-none text (length part) k 10 v o b))
      (λ m. decimal-long (unfed text) (omega (arith, s, r.digits.before, feed-later text (length part) k o))) (r.ends k))

  -- no digit stands first
  pub decimal-no-digit : length part ≡ 0 → decimal_of (value_first text) ≡ none
  decimal-no-digit z = go (dec_lt (length part) (length text))
    where
      go : Dec (length part < length text) → decimal_of (value_first text) ≡ none
      go (yes k) = by_byte k (ℕ_discrete (get_or text (length part) 0) 10)
        where
          by_byte : length part < length text → Dec (get_or text (length part) 0 ≡ 10) → decimal_of (value_first text) ≡ none
          by_byte k (yes e) = let s = closed text 10 v (length part) r.digits k e in decimal-empty (value_first text) (ap length s.part ∙ s.count ∙ z)
          by_byte k (no o) = decimal-other k o
      go (no k) = decimal-cut (omega (arith, r.digits.within))

  -- a line feed follows
  module _ (k : length part < length text) (e : get_or text (length part) 0 ≡ 10) where
    shut : Closed text 10 v (length part)
    shut = closed text 10 v (length part) r.digits k e

    pub decimal-part : part ≡ value_first text
    decimal-part = r.first ∙ shut.first

    pub decimal-one : length part ≡ 1 → decimal_of (value_first text) ≡ some v
    unfolding decimal_of
    decimal-one s = rw (shut.part, shut.count, le-leb 1 (length part) (omega arith), le-leb (length part) 10 (omega arith), eq-eqb (length part) 1 s) shut.number

    module _ (some' : length part ≡ 0 → ⊥) (many : length part ≡ 1 → ⊥) where
      first : get_or (unfed text) 0 0 ≡ get_or text 0 0
      first = get_or-take (bytes_before text) text 0 0 (omega (arith, shut.count, length-take (bytes_before text) text))

      by_first : decimal_of (value_first text) ≡ cond (not (eqb (get_or text 0 0) 48)) (some v) none
      unfolding decimal_of
      by_first =
          rw (shut.part, shut.count, le-leb 1 (length part) (omega arith), le-leb (length part) 10 (omega (arith, r.few)), ne_eqb (length part) 1 many, first, shut.number)

      pub decimal-zero : get_or text 0 0 ≡ 48 → decimal_of (value_first text) ≡ none
      decimal-zero z = by_first ∙ rw (eq-eqb (get_or text 0 0) 48 z)

      pub decimal-many : (get_or text 0 0 ≡ 48 → ⊥) → decimal_of (value_first text) ≡ some v
      decimal-many z = by_first ∙ rw (ne_eqb (get_or text 0 0) 48 z)

-- ---- in hexadecimal

hex-bad : (d : List ℕ) → number_from 16 0 d ≡ none → hex_of d ≡ none
unfolding hex_of
hex-bad d e = go (eqb (length d) 16)
  where
    go : (b : Bool) → cond b (number_from 16 0 d) none ≡ none
    go true = e
    go false = refl

hex-length : (d : List ℕ) → (length d ≡ 16 → ⊥) → hex_of d ≡ none
unfolding hex_of
hex-length d h = rw (ne_eqb (length d) 16 h)

pub hex-short : (text : List ℕ) → length text < 17 → hex_of (value_first text) ≡ none
hex-short text h = by_part text (λ d. hex_of d ≡ none) (no-digits true) (λ k s. hex-length (unfed text) (λ e. omega (arith, s, k)))

module _ (text : List ℕ) (v i : ℕ) (d : DigitsTo 16 text v i) (k : i < length text) where
  -- a byte that is no digit: a line feed comes too early, or the digits are not all digits
  pub hex-other : i < 16 → 16 ≤ digit_of (get_or text i 0) → hex_of (value_first text) ≡ none
  hex-other h b = by_part text (λ d. hex_of d ≡ none) (no-digits true) (λ c s. go c s (ℕ_discrete (get_or text i 0) 10))
    where
      go : bytes_before text < length text → length (unfed text) ≡ bytes_before text → Dec (get_or text i 0 ≡ 10) → hex_of (unfed text) ≡ none
      go c s (yes e) = hex-length (unfed text) (λ z. omega (arith, s, d.before, feed-here text i k e))
      go c s (no o) = hex-bad (unfed text) (d.number ∙ digit-none text i k 16 v o b)

-- the byte after 16 digits
module _ (text : List ℕ) (v : ℕ) (d : DigitsTo 16 text v 16) (k : 16 < length text) where
  pub hex-long : (get_or text 16 0 ≡ 10 → ⊥) → hex_of (value_first text) ≡ none
  hex-long o =
      by_part text (λ d. hex_of d ≡ none) (no-digits true) (λ c s. hex-length (unfed text) (λ z. omega (arith, s, d.before, feed-later text 16 k o)))

  pub hex-some : get_or text 16 0 ≡ 10 → hex_of (value_first text) ≡ some v
  unfolding hex_of
  hex-some e = let s = closed text 16 v 16 d k e in rw (s.part, s.count) s.number
