-- Fairness leaves no choice: two lists of fair shares are the same.
use Prim.Native.Nat.{ℕ, zero, suc, ◌≤◌, ◌<◌}
use mathlib.Core.Path.{◌≡◌, sym, ◌∙◌}
use mathlib.Core.Logic.{⊎_elim}
use mathlib.Core.Bool.{true}
use mathlib.Core.List.{List}
use native.Mathlib.Nat.{le_antisymm, eq-or-lt_of_le, le_of_suc-le-suc}
use native.Mathlib.Omega.{arith}
use lib.Dec.{leb}
use lib.ListN.{length}
use lib.Seq.{ext_get_or}
use borrow.Author.Tests.{leb-true, leb-false}
use Rattle.model.specs.Sum.{sum_over}
use Rattle.model.proofs.Sums.{sum_mono}
use Rattle.model.proofs.Searches.{bool_cases, le_of_not_lt}
use Rattle.lists.specs.Lists.{at}
use Rattle.sharing.specs.Share.{total}
use Rattle.sharing.specs.Claim.{Fair}

-- a summand that is less, while none is more
less : (n i : ℕ) (x y : ℕ → ℕ) → i < n → x i < y i → ((j : ℕ) → j < n → x j ≤ y j) → sum_over n (λ j. true) x < sum_over n (λ j. true) y
unfolding sum_over
less zero i x y h k l = absurd (omega (arith, h))
less (suc n) i x y h k l =
    ⊎_elim
    (λ (e : i ≡ n).
    let m : x n < y n = rw e at k in
    omega (arith, m, sum_mono n (λ j. true) {x = x} {y = y} (λ j g q. l j (omega arith))))
    (λ (g : i < n). omega (arith, less n i x y g k (λ j f. l j (omega arith)), l n (omega arith)))
    (eq-or-lt_of_le (le_of_suc-le-suc h))

module _ (rate : ℕ) (demands one other : List ℕ) (f : Fair rate demands one) (g : Fair rate demands other) where
  abbrev n : ℕ
  n = length demands

  -- nobody has less in the one where somebody else has less in the other
  crossed : (i j : ℕ) → i < n → j < n → at one i < at other i → ¬ (at other j < at one j)
  crossed i j h k less-here less-there =
      let short : at one i < at demands i = omega (arith, less-here, g.within i h) in
      let short' : at other j < at demands j = omega (arith, less-there, f.within j k) in
      let a = f.even i j h k short in
      let b = g.even j i k h short' in
      let up : ¬ (i < j) = λ l. omega (arith, f.lowest i j l k short, b, less-here, less-there) in
      let down : ¬ (j < i) = λ l. omega (arith, g.lowest j i l h short', a, less-here, less-there) in
      let same : i ≡ j = omega (arith, up, down) in
      let here : at one j < at other j = rw same at less-here in omega (arith, here, less-there)

  sums : rate < total demands → sum_over n (λ j. true) (at one) ≡ sum_over n (λ j. true) (at other)
  unfolding total
  sums h = rw f.count at (f.whole h) ∙ sym (rw g.count at (g.whole h))

  no_less : rate < total demands → (i : ℕ) → i < n → at other i ≤ at one i
  no_less t i h = le_of_not_lt (λ k. omega (arith, sums t, less n i (at one) (at other) h k (λ j l. le_of_not_lt (crossed i j h l k))))

pub only : (rate : ℕ) (demands one other : List ℕ) → Fair rate demands one → Fair rate demands other → one ≡ other
only rate demands one other f g =
    ⊎_elim
    (λ e. let h = leb-true (total demands) rate e in f.met h ∙ sym (g.met h))
    (λ e.
    let h = leb-false (total demands) rate e in
    ext_get_or 0 one other (f.count ∙ sym g.count)
    (λ i k.
    let l : i < length demands = rw f.count at k in le_antisymm (no_less rate demands other one g f h i l) (no_less rate demands one other f g h i l)))
    (bool_cases (leb (total demands) rate))
