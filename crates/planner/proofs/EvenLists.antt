-- The list of an even plan: its length, its numbers, and how it is written.
use Prim.Native.Nat.{ℕ, zero, suc, ◌+◌, ◌-◌, ◌*◌, ◌≤◌, ◌<◌}
use mathlib.Core.Path.{◌≡◌, refl, sym, ap, ap₂, ◌∙◌}
use mathlib.Core.Logic.{⊎_elim}
use mathlib.Core.List.{List, [], ◌∷◌, ◌++◌, flatten, append_assoc, append-nil}
use native.Mathlib.Omega.{arith}
use native.Mathlib.Nat.{add_assoc, mul-le-mul, mul-le-mul_right, eq-or-lt_of_le, le_of_suc-le-suc}
use native.Mathlib.Numerals.{add-one}
use lib.ListN.{length, get_or, set, take, drop, length-append, length-drop, length-set, get_or-append}
use lib.Seq.{get_or-append-add, drop-length, take_at, drop_at, drop-drop, drop-set-lt}
use Rattle.model.specs.Limits.{most_steps, most_tunnels}
use Rattle.model.specs.Net.{Net}
use Rattle.model.specs.Even.{even_row}
use Rattle.model.proofs.Rows.{even-at}
use Rattle.model.specs.Listed.{listed}
use Rattle.lists.specs.Lists.{at, plan_of}
use Rattle.planner.specs.Planned.{even_list}
use Rattle.model.proofs.Listed.{listed-length, listed-to, listed_at}

-- ---- one row

pub listed-all : (x : ℕ → ℕ) (t : ℕ) (s r : List ℕ) → r ≡ listed t x ++ drop t s → t ≡ length s → r ≡ listed (length s) x
listed-all x t s r e h = listed-to x t (length s) s r e h ∙ ap (λ (l : List ℕ). listed (length s) x ++ l) (drop-length s) ∙ append-nil _

-- the number that is written is that of the even plan
pub even-number : (N : Net) (q a t : ℕ) → a ≤ q → (q - a) * N.old t + a * N.new t ≡ even_row N q a t
unfolding even_row
even-number N q a t h = sym (even-at q a (N.old t) (N.new t) h)

-- ---- the rows

-- the rows 1 to n of the even plan of q steps, each tunnel by tunnel
unfoldable pub even_rows : Net → ℕ → ℕ → List ℕ
even_rows N q zero = []
even_rows N q (suc n) = even_rows N q n ++ listed N.tunnels (even_row N q (suc n))

flatten-last : (xs : List (List ℕ)) (l : List ℕ) → flatten (xs ++ (l ∷ [])) ≡ flatten xs ++ l
unfolding flatten
flatten-last [] l = append-nil l
flatten-last (x ∷ xs) l = ap (λ (r : List ℕ). x ++ r) (flatten-last xs l) ∙ sym (append_assoc x (flatten xs) l)

rows-flat : (N : Net) (q n : ℕ) → flatten (listed n (λ i. listed N.tunnels (even_row N q (suc i)))) ≡ even_rows N q n
unfolding even_rows listed flatten
rows-flat N q zero = refl
rows-flat N q (suc n) =
    flatten-last (listed n (λ i. listed N.tunnels (even_row N q (suc i)))) (listed N.tunnels (even_row N q (suc n)))
    ∙ ap (λ (r : List ℕ). r ++ listed N.tunnels (even_row N q (suc n))) (rows-flat N q n)

list-rows : (N : Net) (q : ℕ) → even_list N q ≡ (1 ∷ q ∷ q ∷ N.tunnels ∷ []) ++ even_rows N q (q - 1)
unfolding even_list
list-rows N q = ap (λ (r : List ℕ). (1 ∷ q ∷ q ∷ N.tunnels ∷ []) ++ r) (rows-flat N q (q - 1))

pub rows-length : (N : Net) (q n : ℕ) → length (even_rows N q n) ≡ n * N.tunnels
unfolding even_rows
rows-length N q zero = omega arith
rows-length N q (suc n) =
    omega (arith, length-append (even_rows N q n) (listed N.tunnels (even_row N q (suc n))), rows-length N q n, listed-length N.tunnels (even_row N q (suc n)))

pub list_length : (N : Net) (q : ℕ) → length (even_list N q) ≡ 4 + (q - 1) * N.tunnels
list_length N q = ap length (list-rows N q) ∙ length-append (1 ∷ q ∷ q ∷ N.tunnels ∷ []) (even_rows N q (q - 1)) ∙ ap (λ (n : ℕ). 4 + n) (rows-length N q (q - 1))

-- the first four numbers
pub head-stored : (o : List ℕ) (q n : ℕ) → 4 ≤ length o → set (set (set (set o 0 1) 1 q) 2 q) 3 n ≡ (1 ∷ q ∷ q ∷ n ∷ []) ++ drop 4 o
head-stored [] q n h = absurd (omega arith)
head-stored (a ∷ []) q n h = absurd (omega arith)
head-stored (a ∷ b ∷ []) q n h = absurd (omega arith)
head-stored (a ∷ b ∷ c ∷ []) q n h = absurd (omega arith)
head-stored (a ∷ b ∷ c ∷ d ∷ o) q n h = refl

pub head-length : (o : List ℕ) (q n : ℕ) → length (set (set (set (set o 0 1) 1 q) 2 q) 3 n) ≡ length o
head-length o q n = simp length-set

-- leave the others
pub head-rest : (o : List ℕ) (q n k : ℕ) → 4 ≤ k → drop k (set (set (set (set o 0 1) 1 q) 2 q) 3 n) ≡ drop k o
head-rest o q n k h =
    drop-set-lt k (set (set (set o 0 1) 1 q) 2 q) 3 n (omega arith)
    ∙ drop-set-lt k (set (set o 0 1) 1 q) 2 q (omega arith)
    ∙ drop-set-lt k (set o 0 1) 1 q (omega arith)
    ∙ drop-set-lt k o 0 1 (omega arith)

-- the output where n rows are written
abbrev pub Written : Net → ℕ → List ℕ → ℕ → List ℕ → Type 0
Written N q s n r = r ≡ ((1 ∷ q ∷ q ∷ N.tunnels ∷ []) ++ even_rows N q n) ++ drop (4 + n * N.tunnels) s

module _ (N : Net) (q : ℕ) (s : List ℕ) where
  start : ℕ → List ℕ
  start n = (1 ∷ q ∷ q ∷ N.tunnels ∷ []) ++ even_rows N q n

  start-length : (n : ℕ) → length (start n) ≡ 4 + n * N.tunnels
  unfolding start
  start-length n = length-append (1 ∷ q ∷ q ∷ N.tunnels ∷ []) (even_rows N q n) ∙ ap (λ (k : ℕ). 4 + k) (rows-length N q n)

  pub written_none : (r : List ℕ) → r ≡ (1 ∷ q ∷ q ∷ N.tunnels ∷ []) ++ drop 4 s → Written N q s 0 r
  unfolding even_rows
  written_none r e = let k : 4 ≡ 4 + 0 * N.tunnels = omega arith in e ∙ ap (λ (n : ℕ). (1 ∷ q ∷ q ∷ N.tunnels ∷ []) ++ drop n s) k

  -- the next row, in its place
  written_on : (n k m : ℕ) (r : List ℕ) → Written N q s n r → k ≡ 4 + n * N.tunnels → m ≡ N.tunnels
      → take k r ++ (listed N.tunnels (even_row N q (n + 1)) ++ drop m (drop k r)) ≡ ((1 ∷ q ∷ q ∷ N.tunnels ∷ []) ++ even_rows N q (n + 1)) ++ drop (4 + (n + 1) * N.tunnels) s
  unfolding start even_rows
  written_on n k m r e hk hm =
      let row : List ℕ = listed N.tunnels (even_row N q (suc n)) in
      let before : take k r ≡ start n = ap₂ take hk e ∙ take_at (start n) _ _ (start-length n) in
      let after : drop k r ≡ drop (4 + n * N.tunnels) s = ap₂ drop hk e ∙ drop_at (start n) _ _ (start-length n) in
      let next : (4 + n * N.tunnels) + m ≡ 4 + suc n * N.tunnels = omega arith in
      let rest : drop m (drop k r) ≡ drop (4 + suc n * N.tunnels) s =
      ap (drop m) after ∙ drop-drop m (4 + n * N.tunnels) s ∙ ap (λ (j : ℕ). drop j s) next in
      rw (add-one n) (
      ap₂ (λ (x y : List ℕ). x ++ (row ++ y)) before rest
      ∙ sym (append_assoc (start n) row _)
      ∙ ap (λ (x : List ℕ). x ++ drop (4 + suc n * N.tunnels) s) (append_assoc (1 ∷ q ∷ q ∷ N.tunnels ∷ []) (even_rows N q n) row))

  -- row a, from place i on, which the code writes
  pub row_on : (a i m : ℕ) (r row : List ℕ) → 1 ≤ a → Written N q s (a - 1) r → i ≡ 4 + (a - 1) * m → m ≡ N.tunnels → row ≡ listed N.tunnels (even_row N q a)
      → take i r ++ (row ++ drop (i + m - i) (drop i r)) ≡ ((1 ∷ q ∷ q ∷ N.tunnels ∷ []) ++ even_rows N q (a + 1 - 1)) ++ drop (4 + (a + 1 - 1) * N.tunnels) s
  row_on a i m r row one w hi hm e =
      let here : i ≡ 4 + (a - 1) * N.tunnels = rw hm at hi in
      let wide : i + m - i ≡ N.tunnels = omega arith in
      let next : a - 1 + 1 ≡ a = omega arith in
      let last : a - 1 + 1 ≡ a + 1 - 1 = omega arith in
      let own : row ≡ listed N.tunnels (even_row N q (a - 1 + 1)) = e ∙ ap (λ (n : ℕ). listed N.tunnels (even_row N q n)) (sym next) in
      ap (λ (x : List ℕ). take i r ++ (x ++ drop (i + m - i) (drop i r))) own
      ∙ written_on (a - 1) i (i + m - i) r w here wide
      ∙ ap (λ (n : ℕ). ((1 ∷ q ∷ q ∷ N.tunnels ∷ []) ++ even_rows N q n) ++ drop (4 + n * N.tunnels) s) last

  pub written-length : (n : ℕ) (r : List ℕ) → Written N q s n r → 4 + n * N.tunnels ≤ length s → length r ≡ length s
  unfolding start
  written-length n r e h =
      omega (arith, ap length e, length-append (start n) (drop (4 + n * N.tunnels) s), start-length n, length-drop (4 + n * N.tunnels) s)

  pub written_all : (n : ℕ) (r : List ℕ) → Written N q s n r → n ≡ q - 1 → r ≡ even_list N q ++ drop (length (even_list N q)) s
  written_all n r e h =
      e ∙ ap (λ (k : ℕ). ((1 ∷ q ∷ q ∷ N.tunnels ∷ []) ++ even_rows N q k) ++ drop (4 + k * N.tunnels) s) h
      ∙ ap₂ (λ (l : List ℕ) (k : ℕ). l ++ drop k s) (sym (list-rows N q)) (sym (list_length N q))

-- row a + 1 stands so many places on from row a, and none of them is far
pub next-place : (N : Net) (a : ℕ) → 1 ≤ a → 4 + (a + 1 - 1) * N.tunnels ≡ 4 + (a - 1) * N.tunnels + N.tunnels
next-place N a one = let e : a + 1 - 1 ≡ suc (a - 1) = omega arith in rw e (omega arith)

pub place-low : (N : Net) (q a i : ℕ) → a < q → q ≤ most_steps → N.tunnels ≤ most_tunnels → i ≡ 4 + (a - 1) * N.tunnels → i + N.tunnels ≤ 4 + most_steps * most_tunnels + most_tunnels
place-low N q a i h k t e = let j : a - 1 ≤ most_steps = omega arith in omega (arith, e, t, mul-le-mul j t)

-- row a, from place i on, ends within an output that has room
pub row-inside : (N : Net) (q a i m room : ℕ) → a < q → i ≡ 4 + (a - 1) * m → m ≡ N.tunnels → length (even_list N q) ≤ room → 1 ≤ a → i + m ≤ room
row-inside N q a i m room h hi hm fits one =
    let k : suc (a - 1) ≤ q - 1 = omega arith in
    let place : i ≡ 4 + (a - 1) * N.tunnels = rw hm at hi in
    omega (arith, place, hm, fits, list_length N q, mul-le-mul_right N.tunnels k)

-- ---- the numbers of the list, at their places

rows_at : (N : Net) (q n i t : ℕ) → i < n → t < N.tunnels → get_or (even_rows N q n) (i * N.tunnels + t) 0 ≡ even_row N q (suc i) t
unfolding even_rows
rows_at N q zero i t h k = absurd (omega arith)
rows_at N q (suc n) i t h k =
    let T : ℕ = N.tunnels in
    let R : List ℕ = even_rows N q n in
    let row : List ℕ = listed T (even_row N q (suc n)) in
    ⊎_elim
    (λ (e : i ≡ n).
    let here : i * T + t ≡ length R + t = ap (λ (m : ℕ). m * T + t) e ∙ ap (λ (m : ℕ). m + t) (sym (rows-length N q n)) in
    ap (λ (j : ℕ). get_or (R ++ row) j 0) here ∙ get_or-append-add R row t 0 ∙ listed_at T (even_row N q (suc n)) t k ∙ ap (λ (m : ℕ). even_row N q (suc m) t) (sym e))
    (λ less. get_or-append R row 0 (i * T + t) (omega (arith, rows-length N q n, mul-le-mul_right T less)) ∙ rows_at N q n i t less k)
    (eq-or-lt_of_le (le_of_suc-le-suc h))

module _ (N : Net) (q : ℕ) where
  -- parts, steps and tunnels
  pub list-head : (at (even_list N q) 0 ≡ 1) × (at (even_list N q) 1 ≡ q) × (at (even_list N q) 2 ≡ q) × (at (even_list N q) 3 ≡ N.tunnels)
  unfolding even_list
  list-head = (refl, refl, refl, refl)

  -- row a, tunnel t
  pub list_at : (a t : ℕ) → 1 ≤ a → a < q → t < N.tunnels → (plan_of (even_list N q)).at a t ≡ even_row N q a t
  unfolding plan_of even_list
  list_at a t one less k =
      let e : suc (a - 1) ≡ a = omega arith in
      ap₂ at (list-rows N q) (add_assoc 4 ((a - 1) * N.tunnels) t)
      ∙ get_or-append-add (1 ∷ q ∷ q ∷ N.tunnels ∷ []) (even_rows N q (q - 1)) ((a - 1) * N.tunnels + t) 0
      ∙ rows_at N q (q - 1) (a - 1) t (omega arith) k
      ∙ ap (λ (i : ℕ). even_row N q i t) e

-- ---- how large its numbers are

abbrev Most : ℕ → List ℕ → Type 0
Most B l = (i : ℕ) → at l i ≤ B

most-append : (B : ℕ) (xs ys : List ℕ) → Most B xs → Most B ys → Most B (xs ++ ys)
most-append B [] ys h k i = k i
most-append B (x ∷ xs) ys h k zero = h 0
most-append B (x ∷ xs) ys h k (suc i) = most-append B xs ys (λ j. h (suc j)) k i

most-one : (B x : ℕ) → x ≤ B → Most B (x ∷ [])
most-one B x h zero = h
most-one B x h (suc i) = omega arith

listed-most : (B n : ℕ) (x : ℕ → ℕ) → ((t : ℕ) → t < n → x t ≤ B) → Most B (listed n x)
unfolding listed
listed-most B zero x h = λ i. omega arith
listed-most B (suc n) x h = most-append B (listed n x) (x n ∷ []) (listed-most B n x (λ t k. h t (omega arith))) (most-one B (x n) (h n (omega arith)))

pub rows-most : (B : ℕ) (N : Net) (q n : ℕ) → ((a t : ℕ) → a ≤ n → t < N.tunnels → even_row N q a t ≤ B) → Most B (even_rows N q n)
unfolding even_rows
rows-most B N q zero h = λ i. omega arith
rows-most B N q (suc n) h =
    most-append B (even_rows N q n) (listed N.tunnels (even_row N q (suc n)))
    (rows-most B N q n (λ a t k. h a t (omega arith))) (listed-most B N.tunnels (even_row N q (suc n)) (λ t k. h (suc n) t (omega arith) k))

pub list-beyond : (N : Net) (q i : ℕ) → 4 ≤ i → at (even_list N q) i ≡ at (even_rows N q (q - 1)) (i - 4)
list-beyond N q i h =
    let e : i ≡ 4 + (i - 4) = omega arith in
    ap₂ at (list-rows N q) e ∙ get_or-append-add (1 ∷ q ∷ q ∷ N.tunnels ∷ []) (even_rows N q (q - 1)) (i - 4) 0
