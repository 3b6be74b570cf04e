-- The part of a line that is its value: a line of a prefix, digits and a line feed has the digits, and only such a line has any.
use mathlib.Core.Path.{◌≡◌, refl, sym, ap, ◌∙◌}
use mathlib.Core.Bool.{Bool, true, false, cond}
use mathlib.Core.List.{List, [], ◌∷◌, ◌++◌}
use Prim.Native.Nat.{ℕ, suc, ◌-◌, ◌≤◌, ◌<◌}
use native.Mathlib.Omega.{arith}
use lib.Dec.{eqb}
use lib.ListN.{length, get_or, take, length-append, length-take}
use lib.Seq.{take-append_seam, get_or-append_seam, take-suc, take-length}
use borrow.Author.Tests.{eq-eqb, eqb-true}
use Rattle.forms.specs.Line.{value_part, before_feed}

pub own-feed : (d : List ℕ) → before_feed (d ++ (10 ∷ [])) ≡ d
unfolding before_feed
own-feed d =
    let n : length (d ++ (10 ∷ [])) - 1 ≡ length d = omega (arith, length-append d (10 ∷ [])) in
    rw (n, get_or-append_seam d 10 [] 0, take-append_seam d (10 ∷ []))

pub own-part : (p d : List ℕ) → value_part p (p ++ (d ++ (10 ∷ []))) ≡ d
unfolding value_part
own-part [] d = own-feed d
own-part (k ∷ p) d = rw (eq-eqb k k refl) (own-part p d)

empty : (d : List ℕ) → 1 ≤ length d → [] ≡ d → ⊥
empty d h e = let n : 0 ≡ length d = ap length e in omega arith

pub last-feed : (l d : List ℕ) → 1 ≤ length d → before_feed l ≡ d → l ≡ d ++ (10 ∷ [])
unfolding before_feed
last-feed l d h e = go (eqb (get_or l (length l - 1) 0) 10) refl e
  where
    go : (b : Bool) → eqb (get_or l (length l - 1) 0) 10 ≡ b → cond b (take (length l - 1) l) [] ≡ d → l ≡ d ++ (10 ∷ [])
    go true t e =
        let n : length (take (length l - 1) l) ≡ length d = ap length e in
        let k : length l - 1 < length l = omega (arith, length-take (length l - 1) l) in
        let m : length l ≡ suc (length l - 1) = omega arith in
        let c : get_or l (length l - 1) 0 ≡ 10 = eqb-true (get_or l (length l - 1) 0) 10 t in
        let w : l ≡ take (suc (length l - 1)) l = sym (take-length l) ∙ ap (λ (j : ℕ). take j l) m in
        w ∙ take-suc l (length l - 1) 0 k ∙ rw (e, c)
    go false t e = absurd (empty d h e)

pub part-line : (p l d : List ℕ) → 1 ≤ length d → value_part p l ≡ d → l ≡ p ++ (d ++ (10 ∷ []))
unfolding value_part
part-line [] l d h e = last-feed l d h e
part-line (k ∷ p) [] d h e = absurd (empty d h e)
part-line (k ∷ p) (b ∷ l) d h e = go (eqb b k) refl (part-line p l d h) e
  where
    go : (t : Bool) → eqb b k ≡ t → (value_part p l ≡ d → l ≡ p ++ (d ++ (10 ∷ []))) → cond t (value_part p l) [] ≡ d → b ∷ l ≡ k ∷ (p ++ (d ++ (10 ∷ [])))
    go true t f e = rw (eqb-true b k t) (ap (λ (x : List ℕ). k ∷ x) (f e))
    go false t f e = absurd (empty d h e)
