-- Laws of the shares at a level.
use Prim.Native.Nat.{ℕ, zero, suc, ◌+◌, ◌-◌, ◌≤◌, ◌<◌, min}
use mathlib.Core.Path.{◌≡◌, refl, sym, ap, ap₂, ◌∙◌}
use mathlib.Core.Logic.{⊎_elim}
use mathlib.Core.Bool.{Bool, true, false, cond, ◌&&◌}
use mathlib.Core.List.{List}
use native.Mathlib.Nat.{le_trans, eq-or-lt_of_le, le_of_suc-le-suc}
use native.Mathlib.Numerals.{add-one}
use native.Mathlib.Omega.{arith}
use lib.Dec.{leb, ltb}
use lib.ListN.{length}
use lib.Seq.{ext_get_or}
use borrow.Author.Tests.{le-leb, lt-leb, lt-ltb, le-ltb, ltb-true, ltb-false}
use Rattle.model.specs.Sum.{sum_over}
use Rattle.model.specs.Listed.{listed}
use Rattle.model.proofs.Sums.{sum-zero, sum-next, sum-cong, sum-add}
use Rattle.model.proofs.Searches.{bool_cases}
use Rattle.model.proofs.Listed.{listed-length, listed_at}
use Rattle.lists.specs.Lists.{at}
use Rattle.sharing.specs.Share.{total, up_to, level, above, unit, share_at, shares_at, shares}
use Rattle.sharing.proofs.Levels.{demand-most}

bit-most : (b : Bool) → cond b 1 0 ≤ 1
bit-most true = omega arith
bit-most false = omega arith

-- ---- one share

module _ (demands : List ℕ) (t left : ℕ) where
  pub share-met : (i : ℕ) → at demands i ≤ t → share_at demands t left i ≡ at demands i
  unfolding share_at unit
  share-met i h = rw (le-ltb t (at demands i) h) (omega (arith, h))

  share-cut : (i : ℕ) → t < at demands i → (t ≤ share_at demands t left i) × (share_at demands t left i ≤ t + 1)
  unfolding share_at unit
  share-cut i h = (omega (arith, h), omega (arith, h, bit-most (ltb t (at demands i) && ltb (above demands t i) left)))

  -- a share is no more than the demand, at most one above the level, and not below it where it is short of the demand
  pub share-bounds : (i : ℕ)
      → (share_at demands t left i ≤ at demands i) × (share_at demands t left i ≤ t + 1) × (share_at demands t left i < at demands i → t ≤ share_at demands t left i)
  share-bounds i =
      ⊎_elim
      (λ e. let h = ltb-true t (at demands i) e in let c = share-cut i h in (omega (arith, h, c.1), c.1, λ k. c.0))
      (λ e. let h = ltb-false t (at demands i) e in let m = share-met i h in (omega (arith, m), omega (arith, h, m), λ k. absurd (omega (arith, k, m))))
      (bool_cases (ltb t (at demands i)))

  -- ---- the units, one after the other

  pub above_zero : above demands t 0 ≡ 0
  unfolding above
  above_zero = sum-zero _ _

  -- what a turn of the code gives, when so many units are left for service i and those after it
  pub unit-next : (i rest one : ℕ) → rest ≡ left - above demands t i → one ≡ min (cond (ltb t (at demands i)) 1 0) rest
      → (one ≡ unit demands t left i) × (one ≤ rest) × (rest - one ≡ left - above demands t (i + 1))
  unfolding above unit
  unit-next i rest one r e =
      rw (sum-next i (λ j. ltb t (at demands j)) (λ j. 1))
      (⊎_elim
      (λ (b : ltb t (at demands i) ≡ true).
      let m : one ≡ min 1 rest = rw b at e in
      rw b (⊎_elim
      (λ (k : ltb (above demands t i) left ≡ true). let h = ltb-true (above demands t i) left k in rw k (omega (arith, m, h, r), omega (arith, m), omega (arith, m, h, r)))
      (λ (k : ltb (above demands t i) left ≡ false). let h = ltb-false (above demands t i) left k in rw k (omega (arith, m, h, r), omega (arith, m), omega (arith, m, h, r)))
      (bool_cases (ltb (above demands t i) left))))
      (λ (b : ltb t (at demands i) ≡ false).
      let m : one ≡ min 0 rest = rw b at e in
      rw b (omega (arith, m), omega (arith, m), omega (arith, m, r)))
      (bool_cases (ltb t (at demands i))))

  above-later : (i j : ℕ) → i ≤ j → above demands t i ≤ above demands t j
  unfolding above sum_over
  above-later i zero h = let e : i ≡ 0 = omega (arith, h) in rw e (omega arith)
  above-later i (suc j) h = ⊎_elim (λ (e : i ≡ suc j). rw e (omega arith)) (λ k. omega (arith, above-later i j (le_of_suc-le-suc k))) (eq-or-lt_of_le h)

  -- none is left for a service before which there are as many above the level
  unit-none : (i : ℕ) → left ≤ above demands t i → unit demands t left i ≡ 0
  unfolding unit
  unit-none i h = rw (le-ltb (above demands t i) left h) (⊎_elim (λ (b : ltb t (at demands i) ≡ true). rw b) (λ (b : ltb t (at demands i) ≡ false). rw b) (bool_cases (ltb t (at demands i))))

  unit-one : (i : ℕ) → t < at demands i → above demands t i < left → unit demands t left i ≡ 1
  unfolding unit
  unit-one i h k = rw (lt-ltb t (at demands i) h, lt-ltb (above demands t i) left k)

  -- a service short of its demand has no less than one after it
  pub share-first : (i j : ℕ) → i ≤ j → share_at demands t left i < at demands i → share_at demands t left j ≤ share_at demands t left i
  unfolding share_at
  share-first i j l k =
      ⊎_elim
      (λ (e : ltb t (at demands i) ≡ true).
      let h = ltb-true t (at demands i) e in
      ⊎_elim
      (λ g. omega (arith, (share-bounds j).1, unit-one i h (ltb-true (above demands t i) left g), h))
      (λ g. omega (arith, unit-none j (le_trans (ltb-false (above demands t i) left g) (above-later i j l)), h))
      (bool_cases (ltb (above demands t i) left)))
      (λ (e : ltb t (at demands i) ≡ false). absurd (omega (arith, k, share-met i (ltb-false t (at demands i) e))))
      (bool_cases (ltb t (at demands i)))

  -- those given and those still left are all
  units : (n : ℕ) → left ≡ sum_over n (λ i. true) (unit demands t left) + (left - above demands t n)
  unfolding sum_over
  units zero = omega (arith, above_zero)
  units (suc n) =
      let s = unit-next n (left - above demands t n) _ refl refl in
      let e : above demands t (n + 1) ≡ above demands t (suc n) = ap (above demands t) (add-one n) in
      omega (arith, units n, s.0, s.1, s.2, e)

-- ---- all shares

pub listed-total : (n : ℕ) (x : ℕ → ℕ) → total (listed n x) ≡ sum_over n (λ i. true) x
unfolding total
listed-total n x = rw (listed-length n x) (sum-cong n (λ i. true) (λ i k q. listed_at n x i k))

pub shares-total : (demands : List ℕ) (t left : ℕ) → left ≤ above demands t (length demands)
    → total (listed (length demands) (share_at demands t left)) ≡ up_to demands t + left
unfolding share_at up_to
shares-total demands t left h =
    let n = length demands in
    let sums : sum_over n (λ i. true) (λ i. min (at demands i) t + unit demands t left i) ≡ sum_over n (λ i. true) (λ i. min (at demands i) t) + sum_over n (λ i. true) (unit demands t left)
    = sum-add n (λ i. true) (λ i. min (at demands i) t) (unit demands t left) in
    listed-total n (λ i. min (at demands i) t + unit demands t left i) ∙ omega (arith, sums, units demands t left n, h)

module _ (rate : ℕ) (demands : List ℕ) where
  pub shares-all : total demands ≤ rate → shares rate demands ≡ demands
  unfolding shares
  shares-all h = rw (le-leb (total demands) rate h)

  -- the rate serves as a level where each demand is met
  pub shares-met : total demands ≤ rate → listed (length demands) (share_at demands rate 0) ≡ shares rate demands
  shares-met h =
      rw (shares-all h)
      (ext_get_or 0 _ demands (listed-length (length demands) _)
      (λ i k.
      let l : i < length demands = rw (listed-length (length demands) (share_at demands rate 0)) at k in
      listed_at (length demands) (share_at demands rate 0) i l ∙ share-met demands rate 0 i (omega (arith, h, demand-most demands i l))))

  pub shares_cut : rate < total demands → shares rate demands ≡ shares_at rate demands (level rate demands)
  unfolding shares
  shares_cut h = rw (lt-leb (total demands) rate h)

  pub shares-found : {t left : ℕ} → t ≡ level rate demands → left ≡ rate - up_to demands t → rate < total demands
      → listed (length demands) (share_at demands t left) ≡ shares rate demands
  shares-found e k h =
      ap₂ (λ (u m : ℕ). listed (length demands) (share_at demands u m)) e (k ∙ ap (λ (u : ℕ). rate - up_to demands u) e) ∙ sym (shares_cut h)

  pub shares-length : length (shares rate demands) ≡ length demands
  unfolding shares
  shares-length =
      ⊎_elim (λ (e : leb (total demands) rate ≡ true). rw e) (λ (e : leb (total demands) rate ≡ false). rw e (listed-length (length demands) _)) (bool_cases (leb (total demands) rate))
