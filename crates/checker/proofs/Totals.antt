-- The sums of a row: what is gathered for each flow, and the first flow whose sum does not lie between.
use Prim.Native.Nat.{ℕ, ◌+◌, ◌*◌, ◌^◌, ◌≤◌, ◌<◌, min, max}
use mathlib.Core.Path.{◌≡◌, refl, sym, ap, ap₂, ◌∙◌, subst⁻¹}
use mathlib.Core.Logic.{⊎_elim}
use mathlib.Core.Bool.{Bool, true, not, ◌&&◌}
use mathlib.Core.List.{List}
use mathlib.Core.Option.{none, some}
use native.Mathlib.Omega.{arith}
use native.Mathlib.Nat.{eq-or-lt_of_le, le_of_lt, mul-le-mul_left, min-le_left, le-max_left, min-eq_left, min-eq_right, max-eq_left, max-eq_right}
use borrow.Author.Tests.{le-leb}
use lib.Dec.{leb}
use lib.ListN.{get_or, set}
use Rattle.model.specs.Limits.{most_flows, most_tunnels, most_steps, most_amount}
use Rattle.model.specs.Search.{first}
use Rattle.model.specs.Net.{Net, Plan, row}
use Rattle.model.specs.Rule.{flow_sum, missed_rate, between, missed_in}
use Rattle.model.proofs.Sums.{sum-cong, sum-mul}
use Rattle.model.proofs.Searches.{order, only-true, only-false, none_first, first-at}
use Rattle.model.proofs.Rows.{row_first, row_last, rate-met, rate-between, next-between}
use Rattle.judges.specs.Sums.{Gathered}
use Rattle.judges.proofs.Gathering.{gathered-more, gathered-fits}
use Rattle.std.specs.declared.option.Option.TheVariants.{Some, None}
use Rattle.checker.specs.Inner.{Between, FirstMissed}

-- ---- the amount of tunnel n, as the code has it, is added to the sum of its flow

module _ (N : Net) (x : ℕ → ℕ) (n : ℕ) (s : List ℕ) (f v : ℕ) (e : f ≡ N.flow n) (h : f < most_flows) (d : v ≡ x n) (g : Gathered N x n s) where
  pub added : Gathered N x (n + 1) (set s f (get_or s f 0 + v))
  added = rw (e, d) (gathered-more N x n s (omega arith) g)

  pub added-fits : n < most_tunnels → ((t : ℕ) → t < n + 1 → x t ≤ most_amount * most_steps) → get_or s f 0 + v < 2 ^ 64
  added-fits k b = rw (e, d) (gathered-fits N x (most_amount * most_steps) n s (N.flow n) (omega arith) g (omega arith) k b)

-- ---- a sum between two rates

-- either way, as the code compares
module _ (s p r n : ℕ) where
  abbrev Lies : Bool
  Lies = leb (p * min r n) s && leb s (p * max r n)

  pub lies-at-rate : s ≡ p * r → Lies ≡ true
  lies-at-rate e =
      ap₂ ◌&&◌ (le-leb (p * min r n) s (omega (arith, e, mul-le-mul_left p (min-le_left r n)))) (le-leb s (p * max r n) (omega (arith, e, mul-le-mul_left p (le-max_left r n))))

  pub lies-up : p * r < p * n → (leb (p * r) s && leb s (p * n)) ≡ Lies
  lies-up h =
      ⊎_elim
      (λ (k : r ≤ n). rw (min-eq_left k, max-eq_right k) refl)
      (λ (k : n < r). absurd (omega (arith, h, mul-le-mul_left p (le_of_lt k))))
      (order r n)

  pub lies-down : p * n ≤ p * r → (leb (p * n) s && leb s (p * r)) ≡ Lies
  lies-down h =
      ⊎_elim
      (λ (k : r ≤ n).
      let e : p * n ≡ p * r = omega (arith, h, mul-le-mul_left p k) in
      rw (min-eq_left k, max-eq_right k, e) refl)
      (λ (k : n < r). rw (min-eq_right (le_of_lt k), max-eq_left (le_of_lt k)) refl)
      (order r n)

-- ---- the first flow that is missed

pub met-more : (N : Net) (parts : ℕ) (sums : List ℕ) (n : ℕ) → Between N parts sums n → between N parts n (get_or sums n 0) ≡ true → Between N parts sums (n + 1)
met-more N parts sums n h e f k =
    ⊎_elim (λ (q : f ≡ n). subst⁻¹ (λ (i : ℕ). between N parts i (get_or sums i 0) ≡ true) q e) (λ (q : f < n). h f q) (eq-or-lt_of_le {n = f} {m = n} (omega arith))

module _ (N : Net) (P : Plan) (a parts : ℕ) (sums : List ℕ) (e : parts ≡ P.parts) (g : Gathered N (row N P a) N.tunnels sums) (hf : N.flows ≤ most_flows) where
  -- what is gathered is the flow's sum in the row
  told : (f : ℕ) → f < N.flows → between N parts f (get_or sums f 0) ≡ between N P.parts f (flow_sum N (row N P a) f)
  unfolding flow_sum
  told f h = ap₂ (λ (p s : ℕ). between N p f s) e (g.sums f (omega arith))

  met-in : (f : ℕ) → f < N.flows → between N parts f (get_or sums f 0) ≡ true → missed_in N P a f ≡ none
  unfolding missed_in
  met-in f h k = only-false _ _ (ap not (sym (told f h) ∙ k))

  pub row-met : FirstMissed N parts sums None → first N.flows (missed_in N P a) ≡ none
  row-met m = none_first _ N.flows (λ f k. met-in f k (m f k))

  pub row-missed : (r : ℕ) → FirstMissed N parts sums (Some r) → first N.flows (missed_in N P a) ≡ some (record { place = a; second = r })
  unfolding missed_in
  row-missed r m =
      first-at (missed_in N P a) r N.flows _ (none_first _ r (λ f k. met-in f (omega (arith, m.0)) (m.1 f k)))
      (only-true _ _ (ap not (sym (told r m.0) ∙ m.2))) m.0

-- ---- the first and the last row of any plan add up, since a good network's amounts do

module _ (N : Net) (P : Plan) (e : missed_rate N ≡ none) where
  own-row-met : (a : ℕ) (x y : ℕ → ℕ) → ((t : ℕ) → row N P a t ≡ P.parts * x t) → ((f : ℕ) → f < N.flows → flow_sum N x f ≡ y f)
      → ((f : ℕ) → between N P.parts f (P.parts * y f) ≡ true) → first N.flows (missed_in N P a) ≡ none
  unfolding missed_in flow_sum
  own-row-met a x y own met lies =
      none_first _ N.flows (λ f h.
      let e = sum-cong N.tunnels _ (λ t _ _. own t) ∙ sum-mul N.tunnels _ P.parts x ∙ ap (λ (k : ℕ). P.parts * k) (met f h) in
      only-false _ _ (ap not (ap (between N P.parts f) e ∙ lies f)))

  pub first-row-met : first N.flows (missed_in N P 0) ≡ none
  first-row-met = own-row-met 0 N.old N.rate (λ t. row_first N P 0 t refl) (λ f k. (rate-met N e f k).0) (rate-between N P.parts)

  pub last-row-met : 0 < P.steps → first N.flows (missed_in N P P.steps) ≡ none
  last-row-met h = own-row-met P.steps N.new N.next (λ t. row_last N P P.steps t refl h) (λ f k. (rate-met N e f k).1) (next-between N P.parts)
