-- Laws of the sum at a level, and of the largest level that a rate reaches.
use Prim.Native.Nat.{ℕ, zero, suc, ◌+◌, ◌*◌, ◌≤◌, ◌<◌, min}
use mathlib.Core.Path.{◌≡◌, refl, sym, ap, ap₂, ◌∙◌}
use mathlib.Core.Logic.{⊎_elim}
use mathlib.Core.Bool.{Bool, true, cond, true≢false}
use mathlib.Core.List.{List}
use native.Mathlib.Nat.{le_antisymm}
use native.Mathlib.Omega.{arith}
use lib.Dec.{leb, ltb}
use lib.ListN.{length}
use borrow.Author.Tests.{le-leb, lt-leb, lt-ltb, leb-true, ltb-true, ltb-false}
use Rattle.model.specs.Sum.{sum_over}
use Rattle.model.proofs.Sums.{sum_mono, sum-cong, sum-add, sum-mul, sum_bound, sum-all, sum_one, sum-wider}
use Rattle.model.proofs.Searches.{bool_cases, le_of_not_lt}
use Rattle.lists.specs.Lists.{at}
use Rattle.sharing.specs.Share.{total, up_to, largest, level, above}
use Rattle.sharing.specs.Claim.{IsLevel}
use Rattle.sharing.specs.Inner.{met_by}

-- ---- one demand at a level

-- what a level makes of a demand, in two parts: the demand where it is met, and the multiplier where it is above
abbrev parts : ℕ → ℕ → ℕ → ℕ
parts t u d = cond (leb d t) d 0 + u * cond (ltb t d) 1 0

-- no less than the lesser of the demand and the multiplier, and just that where the multiplier is the level or the next
parts-least : (t u d : ℕ) → (min d u ≤ parts t u d) × (t ≤ u → u ≤ t + 1 → min d u ≡ parts t u d)
parts-least t u d =
    ⊎_elim
    (λ e. let k = ltb-true t d e in rw (lt-leb d t k, e) (omega arith, λ l h. omega (arith, k, l, h)))
    (λ e. let k = ltb-false t d e in rw (le-leb d t k, e) (omega arith, λ l h. omega (arith, k, l, h)))
    (bool_cases (ltb t d))

-- ---- the sum at a level

module _ (demands : List ℕ) where
  abbrev n : ℕ
  n = length demands

  sum-parts : (t u : ℕ) → sum_over n (λ i. true) (λ i. parts t u (at demands i)) ≡ met_by demands t n + u * above demands t n
  unfolding met_by above
  sum-parts t u =
      sum-add n (λ i. true) (λ i. cond (leb (at demands i) t) (at demands i) 0) (λ i. u * cond (ltb t (at demands i)) 1 0)
      ∙ ap₂ (λ (a b : ℕ). a + b)
      (sum-all n (λ i. leb (at demands i) t) (at demands))
      (sum-mul n (λ i. true) u (λ i. cond (ltb t (at demands i)) 1 0) ∙ ap (λ (m : ℕ). u * m) (sum-all n (λ i. ltb t (at demands i)) (λ i. 1)))

  -- at any level u no more than what t meets, and u for each above t
  pub up-to-most : (t u : ℕ) → up_to demands u ≤ met_by demands t n + u * above demands t n
  unfolding up_to
  up-to-most t u = rw (sym (sum-parts t u)) (sum_mono n (λ i. true) (λ i k q. (parts-least t u (at demands i)).0))

  -- at t and at the next level just that
  pub up-to-exact : (t u : ℕ) → t ≤ u → u ≤ t + 1 → up_to demands u ≡ met_by demands t n + u * above demands t n
  unfolding up_to
  up-to-exact t u l h = sum-cong n (λ i. true) (λ i k q. (parts-least t u (at demands i)).1 l h) ∙ sum-parts t u

  pub up-to-mono : (t u : ℕ) → t ≤ u → up_to demands t ≤ up_to demands u
  unfolding up_to
  up-to-mono t u h = sum_mono n (λ i. true) (λ i k q. omega (arith, h))

  pub up-to-count : (u : ℕ) → up_to demands u ≤ n * u
  unfolding up_to
  up-to-count u = sum_bound n (λ i. true) (λ i. min (at demands i) u) u (λ i k. omega arith)

  -- a level that meets every demand
  pub up-to-all : (u : ℕ) → ((i : ℕ) → i < n → at demands i ≤ u) → total demands ≡ up_to demands u
  unfolding up_to total
  up-to-all u h = sum-cong n (λ i. true) (λ i k q. omega (arith, h i k))

  pub demand-most : (i : ℕ) → i < n → at demands i ≤ total demands
  unfolding total
  demand-most i h = sum_one n i (λ j. true) (at demands) h refl

  -- the higher a level, the more it meets and the fewer are above it
  pub met-mono : (t u : ℕ) → t ≤ u → met_by demands t n ≤ met_by demands u n
  unfolding met_by
  met-mono t u h = sum-wider n _ _ (at demands) (λ i e. le-leb (at demands i) u (omega (arith, leb-true (at demands i) t e, h)))

  pub above-mono : (t u : ℕ) → t ≤ u → above demands u n ≤ above demands t n
  unfolding above
  above-mono t u h = sum-wider n _ _ (λ i. 1) (λ i e. lt-ltb t (at demands i) (omega (arith, ltb-true u (at demands i) e, h)))

  pub above-count : (t : ℕ) → above demands t n ≤ n
  unfolding above
  above-count t = omega (arith, sum_bound n (λ i. ltb t (at demands i)) (λ i. 1) 1 (λ i k. omega arith))

-- ---- the largest

largest-fits : (n : ℕ) (p : ℕ → Bool) → p 0 ≡ true → p (largest n p) ≡ true
unfolding largest
largest-fits zero p e = e
largest-fits (suc n) p e = ⊎_elim (λ k. rw k k) (λ k. rw k (largest-fits n p e)) (bool_cases (p (suc n)))

largest-low : (n : ℕ) (p : ℕ → Bool) → largest n p ≤ n
unfolding largest
largest-low zero p = omega arith
largest-low (suc n) p = ⊎_elim (λ k. rw k (omega arith)) (λ k. rw k (omega (arith, largest-low n p))) (bool_cases (p (suc n)))

largest-most : (n : ℕ) (p : ℕ → Bool) (u : ℕ) → u ≤ n → p u ≡ true → u ≤ largest n p
unfolding largest
largest-most zero p u h e = h
largest-most (suc n) p u h e =
    ⊎_elim
    (λ k. rw k h)
    (λ k. rw k (largest-most n p u (le_of_not_lt (λ l. let s : u ≡ suc n = omega (arith, l, h) in true≢false (sym e ∙ ap p s ∙ k))) e))
    (bool_cases (p (suc n)))

-- where the sum at the level above the rate is at most the rate, every demand is below that level
small : (n : ℕ) (x : ℕ → ℕ) (r : ℕ) → sum_over n (λ i. true) (λ i. min (x i) (suc r)) ≤ r → sum_over n (λ i. true) (λ i. min (x i) (suc r)) ≡ sum_over n (λ i. true) x
unfolding sum_over
small zero x r h = refl
small (suc n) x r h = let k = small n x r (omega (arith, h)) in omega (arith, k, h)

module _ (rate : ℕ) (demands : List ℕ) where
  -- no level above the rate is reached
  none_above : rate < total demands → rate < up_to demands (suc rate)
  unfolding total up_to
  none_above h = lt_of (λ k. omega (arith, small (length demands) (at demands) rate k, h))
    where
      lt_of : ¬ (sum_over (length demands) (λ i. true) (λ i. min (at demands i) (suc rate)) ≤ rate) → rate < sum_over (length demands) (λ i. true) (λ i. min (at demands i) (suc rate))
      lt_of h = omega arith

  pub level-low : level rate demands ≤ rate
  unfolding level
  level-low = largest-low rate _

  -- the level exists
  pub is-level : rate < total demands → IsLevel rate demands (level rate demands)
  unfolding level
  is-level h = record {
    fits = leb-true _ rate (largest-fits rate (λ t. leb (up_to demands t) rate) (le-leb (up_to demands 0) rate (omega (arith, up-to-count demands 0))));
    most =
        λ u k.
        largest-most rate (λ t. leb (up_to demands t) rate) u
        (le_of_not_lt (λ l. omega (arith, none_above h, up-to-mono demands (suc rate) u l, k))) (le-leb (up_to demands u) rate k);
  }

  -- it is the level that the rate reaches and does not pass
  pub level-found : (t : ℕ) → rate < total demands → up_to demands t ≤ rate → rate < up_to demands (t + 1) → t ≡ level rate demands
  level-found t h k l =
      let i = is-level h in
      le_antisymm (i.most t k) (le_of_not_lt (λ g. omega (arith, up-to-mono demands (t + 1) (level rate demands) (omega (arith, g)), i.fits, l)))
