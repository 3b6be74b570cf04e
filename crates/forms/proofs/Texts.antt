-- Laws of the lines of a text: together they are the text, and those of them that pass a test are the lines of what these are together.
use mathlib.Core.Path.{◌≡◌, refl, ap, ◌∙◌}
use mathlib.Core.Logic.{◌⊎◌, inl, inr}
use mathlib.Core.Bool.{Bool, true, false, cond, not, ◌&&◌}
use mathlib.Core.List.{List, [], ◌∷◌, ◌++◌, flatten, append-nil}
use Prim.Native.Nat.{ℕ}
use lib.Dec.{T, eqb}
use borrow.Author.Tests.{eqb-true}
use Rattle.forms.specs.Line.{lines, on_first}
use Rattle.forms.specs.Turns.{no_feeds}

flatten-first : (b : ℕ) (ls : List (List ℕ)) → flatten (on_first b ls) ≡ b ∷ flatten ls
unfolding flatten on_first
flatten-first b [] = refl
flatten-first b (l ∷ ls) = refl

pub lines-flatten : (t : List ℕ) → flatten (lines t) ≡ t
unfolding lines flatten
lines-flatten [] = refl
lines-flatten (b ∷ t) = go (eqb b 10) (lines-flatten t)
  where
    go : (e : Bool) → flatten (lines t) ≡ t → flatten (cond e ((b ∷ []) ∷ lines t) (on_first b (lines t))) ≡ b ∷ t
    go true h = ap (λ (l : List ℕ). b ∷ l) h
    go false h = flatten-first b (lines t) ∙ ap (λ (l : List ℕ). b ∷ l) h

pub lines-line : (x rest : List ℕ) → T (no_feeds x) → lines (x ++ (10 ∷ []) ++ rest) ≡ (x ++ (10 ∷ [])) ∷ lines rest
unfolding lines on_first
lines-line [] rest h = refl
lines-line (b ∷ x) rest h = go (eqb b 10) h (lines-line x rest)
  where
    go : (e : Bool) → T (not e && no_feeds x) → (T (no_feeds x) → lines (x ++ (10 ∷ []) ++ rest) ≡ (x ++ (10 ∷ [])) ∷ lines rest)
        → cond e ((b ∷ []) ∷ lines (x ++ (10 ∷ []) ++ rest)) (on_first b (lines (x ++ (10 ∷ []) ++ rest))) ≡ (b ∷ (x ++ (10 ∷ []))) ∷ lines rest
    go true h f = absurd h
    go false h f = rw (f h)

-- ---- the lines that pass a test are the lines of what they are together

unfoldable pub filter : (List ℕ → Bool) → List (List ℕ) → List (List ℕ)
filter p [] = []
filter p (l ∷ ls) = cond (p l) (l ∷ filter p ls) (filter p ls)

-- a line that ends with its only line feed
record Fed (l : List ℕ) : Type 0 where
  before : List ℕ
  clean : T (no_feeds before)
  is : l ≡ before ++ (10 ∷ [])

-- lines as a text has them: the last may lack its line feed
abbrev Lined : List (List ℕ) → Type 0
Lined [] = Unit {0}
Lined (l ∷ ls) = (Fed l × Lined ls) ⊎ ((lines l ≡ l ∷ []) × (ls ≡ []))

lined-first : (b : ℕ) → eqb b 10 ≡ false → (ls : List (List ℕ)) → Lined ls → Lined (on_first b ls)
unfolding on_first lines
lined-first b e [] h = inr (rw e, refl)
lined-first b e (l ∷ ls) (inl h) =
    inl (record { before = b ∷ h.0.before; clean = rw e h.0.clean; is = ap (λ (x : List ℕ). b ∷ x) h.0.is }, h.1)
lined-first b e (l ∷ ls) (inr h) = inr (rw (e, h.0), h.1)

lined : (t : List ℕ) → Lined (lines t)
unfolding lines
lined [] = tt
lined (b ∷ t) = go (eqb b 10) refl (lined t)
  where
    go : (e : Bool) → eqb b 10 ≡ e → Lined (lines t) → Lined (cond e ((b ∷ []) ∷ lines t) (on_first b (lines t)))
    go true e h = inl (record { before = []; clean = tt; is = rw (eqb-true b 10 e) }, h)
    go false e h = lined-first b e (lines t) h

lined-filter : (p : List ℕ → Bool) (ls : List (List ℕ)) → Lined ls → Lined (filter p ls)
unfolding filter
lined-filter p [] h = tt
lined-filter p (l ∷ ls) (inl h) = go (p l) (lined-filter p ls h.1)
  where
    go : (b : Bool) → Lined (filter p ls) → Lined (cond b (l ∷ filter p ls) (filter p ls))
    go true k = inl (h.0, k)
    go false k = k
lined-filter p (l ∷ ls) (inr h) = go (p l)
  where
    go : (b : Bool) → Lined (cond b (l ∷ filter p ls) (filter p ls))
    go true = inr (h.0, rw h.1)
    go false = rw h.1 tt

lined-lines : (ls : List (List ℕ)) → Lined ls → lines (flatten ls) ≡ ls
unfolding flatten lines
lined-lines [] h = refl
lined-lines (l ∷ ls) (inl h) = rw (h.0.is, lines-line h.0.before (flatten ls) h.0.clean, lined-lines ls h.1)
lined-lines (l ∷ ls) (inr h) = rw (h.1, append-nil) h.0

pub lines-filter : (p : List ℕ → Bool) (text : List ℕ) → lines (flatten (filter p (lines text))) ≡ filter p (lines text)
lines-filter p text = lined-lines (filter p (lines text)) (lined-filter p (lines text) (lined text))
