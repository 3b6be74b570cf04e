-- Laws of the line reader's steps, as the code's loops use them: what each is at the part of a list from an index on.
use Rattle.std.proofs.Common.{◌≡◌, ℕ, suc, ◌+◌, ◌<◌, ◌≤◌, Bool, true, false, cond, not, T, eqb, List, [], ◌∷◌, ◌++◌, length, take, drop, refl, ap, ap₂, ◌∙◌, arith, length-append, length-take-le, eq-eqb, eqb-true}
use Rattle.forms.specs.Line.{lines, on_first, value_part, before_feed}
use Rattle.model.proofs.Searches.{both}
use Rattle.forms.specs.Turns.{no_feeds}
use Rattle.forms.proofs.Lines.{part-line}
use Rattle.readers.specs.Line.{line_len, first_line}

-- ---- the first line

pub line-some : (t : List ℕ) → 0 < length t → 0 < line_len t
unfolding line_len
line-some [] h = h
line-some (b ∷ t) h = go (eqb b 10)
  where
    go : (e : Bool) → 0 < cond e 1 (suc (line_len t))
    go true = omega arith
    go false = omega arith

pub line-within : (t : List ℕ) → line_len t ≤ length t
unfolding line_len
line-within [] = omega arith
line-within (b ∷ t) = go (eqb b 10) (line-within t)
  where
    go : (e : Bool) → line_len t ≤ length t → cond e 1 (suc (line_len t)) ≤ suc (length t)
    go true h = omega arith
    go false h = omega arith

-- the lines of a text that is not empty: the first, and those of the rest
abbrev Steps : List ℕ → Type 0
Steps t = lines t ≡ first_line t ∷ lines (drop (line_len t) t)

lines-one : (b : ℕ) (e : Bool)
    → cond e ((b ∷ []) ∷ lines []) (on_first b (lines [])) ≡ take (cond e 1 (suc (line_len []))) (b ∷ []) ∷ lines (drop (cond e 1 (suc (line_len []))) (b ∷ []))
unfolding lines line_len on_first
lines-one b true = refl
lines-one b false = refl

lines_more : (b : ℕ) (t : List ℕ) (e : Bool) → Steps t
    → cond e ((b ∷ []) ∷ lines t) (on_first b (lines t)) ≡ take (cond e 1 (suc (line_len t))) (b ∷ t) ∷ lines (drop (cond e 1 (suc (line_len t))) (b ∷ t))
unfolding on_first
lines_more b t true h = refl
lines_more b t false h = rw h

lines_step : (b : ℕ) (t : List ℕ) → Steps (b ∷ t)
unfolding lines line_len
lines_step b [] = lines-one b (eqb b 10)
lines_step b (c ∷ t) = lines_more b (c ∷ t) (eqb b 10) (lines_step c t)

pub lines-some : (t : List ℕ) → 0 < length t → lines t ≡ first_line t ∷ lines (drop (line_len t) t)
lines-some [] h = absurd (omega arith)
lines-some (b ∷ t) h = lines_step b t

-- ---- after the key

-- the first line begins with the text's first byte, and goes on where that is no line feed
first_byte : (b : ℕ) (t : List ℕ) → (r : List ℕ) × (first_line (b ∷ t) ≡ b ∷ r)
unfolding line_len
first_byte b t = go (eqb b 10)
  where
    go : (e : Bool) → (r : List ℕ) × (take (cond e 1 (suc (line_len t))) (b ∷ t) ≡ b ∷ r)
    go true = ([], refl)
    go false = (first_line t, refl)

not-feed : (k : ℕ) → T (not (eqb k 10)) → eqb k 10 ≡ false
not-feed k h = go (eqb k 10) h
  where
    go : (e : Bool) → T (not e) → e ≡ false
    go true h = absurd h
    go false h = refl

-- a key's first byte, which is no line feed: it is the text's, or not
module _ (k : ℕ) (p : List ℕ) (b : ℕ) (t : List ℕ) (n : T (not (eqb k 10))) where
  line_on : eqb b k ≡ true → line_len (b ∷ t) ≡ suc (line_len t)
  unfolding line_len
  line_on x = let e : eqb b 10 ≡ false = rw (eqb-true b k x) (not-feed k n) in rw e

  value_on : eqb b k ≡ true → value_part (k ∷ p) (first_line (b ∷ t)) ≡ value_part p (first_line t)
  unfolding value_part
  value_on x = ap (λ (m : ℕ). value_part (k ∷ p) (take m (b ∷ t))) (line_on x) ∙ rw x

  value-off : eqb b k ≡ false → value_part (k ∷ p) (first_line (b ∷ t)) ≡ []
  unfolding value_part
  value-off x = ap (λ (l : List ℕ). value_part (k ∷ p) l) (first_byte b t).1 ∙ rw x

-- where the key stands first, the value is what stands after it before the line feed
after-key : (p r : List ℕ) → T (no_feeds p) → value_part p (first_line (p ++ r)) ≡ before_feed (first_line r)
unfolding value_part
after-key [] r n = refl
after-key (k ∷ p) r n =
    let m = both (not (eqb k 10)) (no_feeds p) n in
    value_on k p k (p ++ r) m.0 (eq-eqb k k refl) ∙ after-key p r m.1

pub key-value : (p t r : List ℕ) → T (no_feeds p) → t ≡ p ++ r → value_part p (first_line t) ≡ before_feed (first_line r)
key-value p t r n e = rw e (after-key p r n)

value_none : (k : ℕ) (p : List ℕ) → value_part (k ∷ p) (first_line []) ≡ []
unfolding value_part line_len
value_none k p = refl

-- and where it does not, there is no value
pub value-other : (p t : List ℕ) → T (no_feeds p) → ((r : List ℕ) → t ≡ p ++ r → ⊥) → value_part p (first_line t) ≡ []
value-other [] t n e = absurd (e t refl)
value-other (k ∷ p) [] n e = value_none k p
value-other (k ∷ p) (b ∷ t) n e = go (eqb b k) refl (value-other p t (both (not (eqb k 10)) (no_feeds p) n).1)
  where
    feed : T (not (eqb k 10))
    feed = (both (not (eqb k 10)) (no_feeds p) n).0

    go : (x : Bool) → eqb b k ≡ x → (((r : List ℕ) → t ≡ p ++ r → ⊥) → value_part p (first_line t) ≡ []) → value_part (k ∷ p) (first_line (b ∷ t)) ≡ []
    go true x f = value_on k p b t feed x ∙ f (λ r q. e r (ap₂ (λ (c : ℕ) (l : List ℕ). c ∷ l) (eqb-true b k x) q))
    go false x f = value-off k p b t feed x

-- a line whose value has digits is as long as the key, the digits and the line feed
pub line-length : (p t : List ℕ) → 1 ≤ length (value_part p (first_line t)) → line_len t ≡ length p + length (value_part p (first_line t)) + 1
line-length p t h =
    let d = value_part p (first_line t) in
    let e : length (first_line t) ≡ length (p ++ (d ++ (10 ∷ []))) = ap length (part-line p (first_line t) d h refl) in
    let k : length (p ++ (d ++ (10 ∷ []))) ≡ length p + (length d + 1) = simp length-append in
    omega (arith, length-take-le (line_len t) t (line-within t))
