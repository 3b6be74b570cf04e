-- Laws of the remark at a place of a text: where the line after it begins, by the byte that is looked at.
use Rattle.std.proofs.Common.{◌≡◌, ℕ, ◌+◌, ◌<◌, ◌≤◌, false, ◌&&◌, T, eqb, leb, List, [], ◌∷◌, length, get_or, drop, sym, refl, ap, ◌∙◌, arith, eqb→eq, length-append, length-drop, length-take-le, get_or-take, le-ltb, lt-ltb, le-leb, ne_eqb}
use native.Mathlib.Decide.{ℕ_discrete}
use Rattle.std.specs.List.{starts_with}
use borrow.Author.Tests.{lt-leb}
use Rattle.model.proofs.Searches.{and-false}
use Rattle.forms.specs.Line.{before_feed, fits, most_remarks, most_in_remark}
use Rattle.forms.specs.Turns.{hashed}
use Rattle.forms.proofs.Remarks.{unfit}
use Rattle.readers.specs.Line.{line_len, first_line, bytes_before, unfed, remark_len}
use Rattle.std.specs.declared.option.Option.TheVariants.{None, Some}
use Rattle.readers.proofs.Lines.{line-some, line-within}
use Rattle.readers.proofs.Digits.{feed-none, feed-here, feed-later, feed-first, by_part, part-closed}

-- ---- the byte that a line begins with

pub first-here : (text : List ℕ) → 0 < length text → get_or (first_line text) 0 0 ≡ get_or text 0 0
first-here text h = get_or-take (line_len text) text 0 0 (line-some text h)

pub hash-here : (text : List ℕ) → starts_with eqb text (35 ∷ []) ≡ hashed (first_line text)
unfolding line_len
hash-here [] = refl
hash-here (b ∷ t) = go (ℕ_discrete b 35) ∙ ap (λ (c : ℕ). eqb c 35) (sym (first-here (b ∷ t) (omega arith)))
  where
    go : Dec (b ≡ 35) → starts_with eqb (b ∷ t) (35 ∷ []) ≡ eqb b 35
    go (yes e) = rw e
    go (no o) = rw (ne_eqb b 35 o, ne_eqb 35 b (λ e. o (sym e)))

-- no remark begins where the text ends
pub none-remark : (text : List ℕ) → length text ≡ 0 → hashed (first_line text) ≡ false
unfolding line_len
none-remark [] h = refl
none-remark (b ∷ t) h = absurd (omega arith)

pub remark-within : (text : List ℕ) → T (hashed (first_line text)) → 0 < length text
remark-within [] t = absurd (rw (none-remark [] refl) at t)
remark-within (b ∷ text) t = omega arith

-- nor at a place past its end
pub remark-below : (text : List ℕ) (at : ℕ) → T (hashed (first_line (drop at text))) → at < length text
remark-below text at t = omega (arith, remark-within (drop at text) t, length-drop at text)

-- the first n bytes stand in the text, and none of them is a line feed
pub record Unfed (text : List ℕ) (n : ℕ) : Type 0 where
  pub within : n ≤ length text
  pub before : bytes_before text ≡ n + bytes_before (drop n text)

module _ (text : List ℕ) where
  pub unfed-more : (n : ℕ) → Unfed text n → n < length text → (get_or text n 0 ≡ 10 → ⊥) → Unfed text (n + 1)
  unfed-more n u h o = record { within = omega arith; before = omega (arith, u.before, feed-later text n h o) }

  pub unfed-start : T (hashed (first_line text)) → Unfed text 1
  unfed-start t =
      let h = remark-within text t in
      let e : get_or text 0 0 ≡ 35 = sym (first-here text h) ∙ eqb→eq _ 35 t in
      record { within = omega arith; before = omega (arith, feed-later text 0 h (λ z. omega (arith, e, z))) }

-- ---- a remark by what stands before its line feed

fits_by : (t : List ℕ) → (bytes_before t < length t → most_in_remark < bytes_before t) → fits (first_line t) ≡ false
unfolding fits
fits_by t f =
    by_part t (λ d. (leb 1 (length d) && leb (length d) most_in_remark) ≡ false) refl
    (λ h s. rw (s, lt-leb (bytes_before t) most_in_remark (f h)) (and-false (leb 1 (bytes_before t))))

line-closed : (t : List ℕ) → bytes_before t < length t → line_len t ≡ bytes_before t + 1
line-closed t h =
    let e : length (first_line t) ≡ length (unfed t) + 1 = ap length (feed-first t h) ∙ length-append (unfed t) (10 ∷ []) in
    omega (arith, e, length-take-le (line_len t) t (line-within t), length-take-le (bytes_before t) t (omega arith))

module _ (text : List ℕ) (before : ℕ) where
  pub remark-many : most_remarks ≤ before → remark_len text before ≡ None
  unfolding remark_len
  remark-many h = rw (le-ltb before most_remarks h)

  pub remark-bad : fits (first_line text) ≡ false → remark_len text before ≡ None
  unfolding remark_len
  remark-bad e = rw (unfit before (first_line text) e)

  module _ (n : ℕ) (u : Unfed text n) where
    pub remark-cut : n ≡ length text → remark_len text before ≡ None
    remark-cut e = remark-bad (fits_by text (λ h. absurd (omega (arith, u.before, feed-none text n (omega arith)))))

    pub remark-long : most_in_remark < n → remark_len text before ≡ None
    remark-long h = remark-bad (fits_by text (λ k. omega (arith, u.before)))

    pub remark-fits : n < length text → get_or text n 0 ≡ 10 → 1 ≤ n → n ≤ most_in_remark → before < most_remarks → remark_len text before ≡ Some (n + 1)
    unfolding remark_len fits
    remark-fits h e some few b =
        let size : bytes_before text ≡ n = omega (arith, u.before, feed-here text n h e) in
        let k : bytes_before text < length text = omega arith in
        let m : length (before_feed (first_line text)) ≡ n = ap length (part-closed text k) ∙ length-take-le (bytes_before text) text (omega arith) ∙ size in
        let end : line_len text ≡ n + 1 = omega (arith, line-closed text k) in
        rw (lt-ltb before most_remarks b, m, le-leb 1 n some, le-leb n most_in_remark few, end)
