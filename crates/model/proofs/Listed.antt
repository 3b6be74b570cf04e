-- Laws of a list that is filled from the front: `listed t x` at the front of what it had.
use Prim.Native.Nat.{ℕ, zero, suc, ◌+◌, ◌<◌}
use mathlib.Core.Path.{◌≡◌, refl, sym, ap, ap₂, ◌∙◌}
use mathlib.Core.Logic.{⊎_elim}
use mathlib.Core.List.{List, [], ◌∷◌, ◌++◌, flat_map, append_assoc, append-nil}
use native.Mathlib.Nat.{eq-or-lt_of_le, le_of_suc-le-suc}
use native.Mathlib.Numerals.{add-one}
use native.Mathlib.Omega.{arith}
use lib.ListN.{length, get_or, set, drop, length-append, get_or-append}
use lib.Seq.{drop-cons, set_at, append_snoc, get_or_at}
use Rattle.model.specs.Listed.{listed}

pub listed-length : {A : Type 0} (n : ℕ) (x : ℕ → A) → length (listed n x) ≡ n
unfolding listed
listed-length zero x = refl
listed-length (suc n) x = length-append (listed n x) (x n ∷ []) ∙ add-one _ ∙ ap suc (listed-length n x)

pub listed-none : (x : ℕ → ℕ) (r : List ℕ) → r ≡ listed 0 x ++ drop 0 r
unfolding listed
listed-none x r = refl

-- a store of the next number
pub listed-on : (x : ℕ → ℕ) (t v : ℕ) (s r : List ℕ) → r ≡ listed t x ++ drop t s → t < length s → v ≡ x t → set r t v ≡ listed (t + 1) x ++ drop (t + 1) s
unfolding listed
listed-on x t v s r e h k =
    ap (λ (l : List ℕ). set l t v) (e ∙ ap (λ (l : List ℕ). listed t x ++ l) (drop-cons s t 0 h))
    ∙ set_at (listed t x) (get_or s t 0) (drop (suc t) s) v t (listed-length t x)
    ∙ sym (append_snoc (listed t x) v (drop (suc t) s))
    ∙ ap (λ (u : ℕ). (listed t x ++ u ∷ []) ++ drop (suc t) s) k
    ∙ ap (λ (n : ℕ). listed n x ++ drop n s) (sym (add-one t))

pub listed-to : (x : ℕ → ℕ) (t n : ℕ) (s r : List ℕ) → r ≡ listed t x ++ drop t s → t ≡ n → r ≡ listed n x ++ drop n s
listed-to x t n s r e h = e ∙ ap (λ (k : ℕ). listed k x ++ drop k s) h

pub listed_at : (n : ℕ) (x : ℕ → ℕ) (t : ℕ) → t < n → get_or (listed n x) t 0 ≡ x t
unfolding listed
listed_at zero x t h = absurd (omega arith)
listed_at (suc n) x t h =
    ⊎_elim
    (λ (e : t ≡ n). ap (λ (i : ℕ). get_or (listed n x ++ x n ∷ []) i 0) e ∙ get_or_at (listed n x) (x n) [] 0 n (listed-length n x) ∙ ap x (sym e))
    (λ k. get_or-append (listed n x) (x n ∷ []) 0 t (rw (listed-length n x) k) ∙ listed_at n x t k)
    (eq-or-lt_of_le (le_of_suc-le-suc h))

pub listed-cong : {A : Type 0} (x y : ℕ → A) (n : ℕ) → ((t : ℕ) → t < n → x t ≡ y t) → listed n x ≡ listed n y
unfolding listed
listed-cong x y zero h = refl
listed-cong {A} x y (suc n) h = ap₂ (λ (l : List A) (v : A). l ++ (v ∷ [])) (listed-cong x y n (λ t k. h t (omega arith))) (h n (omega arith))

-- seen from the front
pub listed-front : {A : Type 0} (n : ℕ) (x : ℕ → A) → listed (suc n) x ≡ x 0 ∷ listed n (λ t. x (suc t))
unfolding listed
listed-front zero x = refl
listed-front {A} (suc n) x = ap (λ (l : List A). l ++ (x (suc n) ∷ [])) (listed-front n x)

-- ---- lists one after the other

pub flat_map-append : {A B : Type 0} (f : A → List B) (xs ys : List A) → flat_map f (xs ++ ys) ≡ flat_map f xs ++ flat_map f ys
unfolding flat_map
flat_map-append f [] ys = refl
flat_map-append {A} {B} f (x ∷ xs) ys = ap (λ (l : List B). f x ++ l) (flat_map-append f xs ys) ∙ sym (append_assoc (f x) (flat_map f xs) (flat_map f ys))

-- those of a function's values, and one more
pub flat_map-listed : {A B : Type 0} (f : A → List B) (n : ℕ) (x : ℕ → A) → flat_map f (listed (n + 1) x) ≡ flat_map f (listed n x) ++ f (x n)
unfolding listed flat_map
flat_map-listed {A} {B} f n x = rw add-one (flat_map-append f (listed n x) (x n ∷ []) ∙ ap (λ (l : List B). flat_map f (listed n x) ++ l) (append-nil (f (x n))))
