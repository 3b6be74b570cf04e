-- What the planner's comparisons tell, by the three sums, of the rule: when an even plan is accepted, which steps are fewest, and where the plan of 50 steps overloads.
use Prim.Native.Nat.{ℕ, zero, suc, ◌+◌, ◌-◌, ◌*◌, ◌≤◌, ◌<◌, min}
use mathlib.Core.Path.{◌≡◌, refl, sym, ap, ap₂, subst, ◌∙◌}
use mathlib.Core.Logic.{⊎_elim}
use mathlib.Core.Bool.{Bool, true, false, ◌||◌, true≢false}
use mathlib.Core.Option.{Option, none, some, Option-elim}
use native.Mathlib.Omega.{arith}
use native.Mathlib.Decide.{dec_lt}
use native.Mathlib.Nat.{eq-or-lt_of_le, le_of_suc-le-suc}
use native.Mathlib.Numerals.{add-one}
use lib.Dec.{ltb}
use borrow.Author.Tests.{lt-ltb, le-ltb}
use Rattle.model.specs.Limits.{most_steps}
use Rattle.model.specs.Search.{first, only_if}
use Rattle.model.specs.Net.{Net}
use Rattle.model.specs.Scan.{Bound, test_link}
use Rattle.model.specs.Rule.{exceeds, missed_rate, step_count, worst_over, first_overload, accepted}
use Rattle.model.specs.Even.{even, fewest}
use Rattle.model.specs.ThreeSums.{step_load, end_load}
use Rattle.model.proofs.Searches.{bool_cases, only-true, only-false, first_on, first-at, none_first}
use Rattle.model.proofs.Scans.{link-protected, link-total, link-neither, scan-at, scan-end, test_step}
use Rattle.model.proofs.Choices.{factor, room, kept-le, le-kept}
use Rattle.model.proofs.Evens.{even-load, even_accepted}
use Rattle.std.specs.Prelude.{Err}
use Rattle.lists.specs.Refusals.{counted}
use Rattle.model.specs.declared.Cause.TheVariants.{NoEvenPlan}
use Rattle.link_sums.specs.declared.table.LinkSums.{LinkSums}
use Rattle.link_sums.specs.Tables.{sums_of}
use Rattle.planner.specs.Sums.{step_sum, end_sum}
use Rattle.planner.specs.Planned.{stuck}
use Rattle.planner.specs.Search.{is_over, is_short, is_over_in}
use Rattle.planner.proofs.MoreSteps.{more-steps}

-- ---- the two comparisons for a link

module _ (N : Net) (q l p a cap : ℕ) (same : cap ≡ N.cap l) where
  pub over_first : q * cap < p → ltb (q * cap) p ≡ is_over N q l p a
  unfolding exceeds
  over_first h = let e = lt-ltb _ _ h in e ∙ sym (ap (λ (b : Bool). b || exceeds N Bound.total q l a) (rw same at e))

  pub over-second : (o : ℕ) → o ≡ N.overrun → p ≤ q * cap → ltb ((1000 + o) * (q * cap)) (1000 * a) ≡ is_over N q l p a
  unfolding exceeds
  over-second o eo h =
      ap₂ (λ (x y : ℕ). ltb ((1000 + x) * (q * y)) (1000 * a)) eo same ∙ sym (ap (λ (b : Bool). b || exceeds N Bound.total q l a) (le-ltb _ _ (rw same at h)))

bound-both : (P : Bound → Type 0) → P Bound.protected → P Bound.total → (b : Bound) → P b
bound-both P x y Bound.protected = x
bound-both P x y Bound.total = y

or-false : (b c : Bool) → (b || c) ≡ false → (b ≡ false) × (c ≡ false)
or-false true c e = absurd (true≢false e)
or-false false c e = (refl, e)

module _ (w : ℕ) (N : Net) (q l : ℕ) where
  -- a link on which no bound is broken keeps both
  pub kept-both : is_short w N q l ≡ false → (b : Bound) → factor b * end_load w N b q l ≤ q * room N b l
  kept-both e =
      let k = or-false (exceeds N Bound.protected q l (end_load w N Bound.protected q l)) (exceeds N Bound.total q l (end_load w N Bound.total q l)) e in
      bound-both (λ b. factor b * end_load w N b q l ≤ q * room N b l) (kept-le N Bound.protected q l _ k.0) (kept-le N Bound.total q l _ k.1)

  -- one on which a bound is broken shows that the plan is not accepted
  pub not-accepted : missed_rate N ≡ none → l < N.links → is_short w N q l ≡ true → accepted w N (even N q) ≡ false
  not-accepted r hl e =
      ⊎_elim
      (λ a.
      let kept : (b : Bound) → exceeds N b q l (end_load w N b q l) ≡ false = λ b. le-kept N b q l _ ((even_accepted w N r q).0 a l hl b) in
      absurd (true≢false (sym e ∙ ap₂ ◌||◌ (kept Bound.protected) (kept Bound.total))))
      (λ f. f)
      (bool_cases (accepted w N (even N q)))

-- the sums of a link are the loads
module _ (w : ℕ) (N : Net) (b : Bound) (q l : ℕ) where
  sum-end : end_sum (sums_of N b l) (min w q) q ≡ end_load w N b q l
  unfolding end_load
  sum-end = refl

  sum_step : (i : ℕ) → step_sum (sums_of N b l) (min w q) q i ≡ step_load w N b q i l
  unfolding step_load
  sum_step i = refl

worst-step : (w : ℕ) (N : Net) (b : Bound) (i l : ℕ) → i + w ≤ most_steps → worst_over w N (even N most_steps) i l b ≡ exceeds N b most_steps l (step_sum (sums_of N b l) w most_steps i)
unfolding worst_over even step_count
worst-step w N b i l hi =
    let whole : min w most_steps ≡ w = omega arith in
    ap (exceeds N b most_steps l)
    (even-load w N b l most_steps i (omega arith) ∙ sym (sum_step w N b most_steps l i) ∙ ap (λ (m : ℕ). step_sum (sums_of N b l) m most_steps i) whole)

-- what is computed tells of the plan of q steps, with m rows after the first in each window
pub short-same : (w : ℕ) (N : Net) (q l m : ℕ) (p a : LinkSums) (x y : ℕ) → m ≡ min w q → p ≡ sums_of N Bound.protected l → a ≡ sums_of N Bound.total l
    → x ≡ end_sum p m q → y ≡ end_sum a m q → is_over N q l x y ≡ is_short w N q l
short-same w N q l m p a x y em ep ea ex ey =
    ap₂ (is_over N q l)
    (ex ∙ ap₂ (λ (s : LinkSums) (k : ℕ). end_sum s k q) ep em ∙ sum-end w N Bound.protected q l)
    (ey ∙ ap₂ (λ (s : LinkSums) (k : ℕ). end_sum s k q) ea em ∙ sum-end w N Bound.total q l)

-- and of that of 50 steps in the window from row i
pub over-same : (w : ℕ) (N : Net) (i l : ℕ) (p a : LinkSums) (x y : ℕ) → i + w ≤ most_steps → p ≡ sums_of N Bound.protected l → a ≡ sums_of N Bound.total l
    → x ≡ step_sum p w most_steps i → y ≡ step_sum a w most_steps i → is_over N most_steps l x y ≡ is_over_in w N i l
over-same w N i l p a x y hi ep ea ex ey =
    ap₂ (is_over N most_steps l) (ex ∙ ap (λ (s : LinkSums). step_sum s w most_steps i) ep) (ey ∙ ap (λ (s : LinkSums). step_sum s w most_steps i) ea)
    ∙ sym (ap₂ ◌||◌ (worst-step w N Bound.protected i l hi) (worst-step w N Bound.total i l hi))

-- ---- the fewest steps

module _ (w : ℕ) (N : Net) where
  tried : ℕ → Option ℕ
  tried i = only_if (accepted w N (even N (suc i))) (suc i)

  -- no even plan of fewer than q steps is accepted
  pub record NoneFewer (q : ℕ) : Type 0 where
    pub least : 1 ≤ q
    pub none : (r : ℕ) → 1 ≤ r → r < q → accepted w N (even N r) ≡ false

  pub none-fewer : NoneFewer 1
  none-fewer = record { least = omega arith; none = λ r one h. absurd (omega arith) }

  -- so the search finds none before it
  none_before : (q : ℕ) → NoneFewer (suc q) → first q tried ≡ none
  unfolding tried
  none_before q n = none_first tried q (λ i k. only-false _ (suc i) (n.none (suc i) (omega arith) (omega arith)))

  pub fewest-at : (q : ℕ) → NoneFewer q → q ≤ most_steps → accepted w N (even N q) ≡ true → fewest w N ≡ some q
  unfolding fewest tried
  fewest-at q n h a =
      let e : suc (q - 1) ≡ q = omega (arith, n.least) in
      let found : tried (q - 1) ≡ some q = ap (λ (k : ℕ). only_if (accepted w N (even N k)) k) e ∙ only-true _ q a in
      first-at tried (q - 1) most_steps q (none_before (q - 1) (rw e n)) found (omega (arith, n.least))

  -- where plans of q steps on to t break a bound on a link
  pub fewer-on : (q t l : ℕ) → NoneFewer q → missed_rate N ≡ none → l < N.links → ((i : ℕ) → q ≤ i → i < t → is_short w N i l ≡ true) → q ≤ t → NoneFewer t
  fewer-on q t l n r hl h less = record {
    least = omega (arith, n.least);
    none = λ i one k. elim (dec_lt i q) [
      | yes j ↦ n.none i one j
      | no j ↦ not-accepted w N i l r hl (h i (omega arith) k)
    ];
  }

  pub fewest-none : NoneFewer (suc most_steps) → fewest w N ≡ none
  unfolding fewest tried
  fewest-none n = none_before most_steps n

  -- the first k links keep both bounds in the even plan of q steps
  pub record Kept (q k : ℕ) : Type 0 where
    pub each : (l : ℕ) → l < k → (b : Bound) → factor b * end_load w N b q l ≤ q * room N b l

  kept_on : (q k : ℕ) → Kept q k → is_short w N q k ≡ false → Kept q (k + 1)
  kept_on q k h e = record { each = λ l less. ⊎_elim (λ (z : l ≡ k). rw z (kept-both w N q k e)) (h.each l) (eq-or-lt_of_le (le_of_suc-le-suc (rw add-one at less))) }

  kept_more : (d q k : ℕ) → 0 < q → Kept q k → Kept (q + d) k
  kept_more zero q k pos h = let e : q ≡ q + 0 = omega arith in subst (λ (n : ℕ). Kept n k) e h
  kept_more (suc d) q k pos h =
      let e : suc (q + d) ≡ q + suc d = omega arith in
      subst (λ (n : ℕ). Kept n k) e (record { each = λ l less b. more-steps w N b (q + d) l (omega arith) ((kept_more d q k pos h).each l less b) })

  -- more steps keep them too, and with them a link on which no bound is broken
  pub kept-next : (q t k : ℕ) → 0 < q → q ≤ t → Kept q k → is_short w N t k ≡ false → Kept t (k + 1)
  kept-next q t k pos less h e =
      let sum : q + (t - q) ≡ t = omega arith in
      kept_on t k (subst (λ (n : ℕ). Kept n k) sum (kept_more (t - q) q k pos h)) e

  pub all-kept : (q k : ℕ) → missed_rate N ≡ none → N.links ≤ k → Kept q k → accepted w N (even N q) ≡ true
  all-kept q k r h kept = (even_accepted w N r q).1 (λ l hl b. kept.each l (omega arith) b)

-- ---- where the plan of 50 steps overloads

-- at a lag of w, how many windows the plan of 50 steps has
abbrev pub windows : ℕ → ℕ
windows w = suc (most_steps - w)

module _ (w : ℕ) (N : Net) where
  bad : ℕ → ℕ → Bound → Bool
  bad = worst_over w N (even N most_steps)

  -- no overload before the step from row i, and in it none before link l
  abbrev pub steps_kept : ℕ → Type 0
  steps_kept i = first i (test_step N.links (worst_over w N (even N most_steps))) ≡ none

  abbrev pub links_kept : ℕ → ℕ → Type 0
  links_kept i l = first l (test_link (worst_over w N (even N most_steps)) i) ≡ none

  pub links-on : (i l : ℕ) → links_kept i l → is_over_in w N i l ≡ false → links_kept i (l + 1)
  unfolding bad
  links-on i l e h = let s = or-false _ _ h in first_on (test_link bad i) l e (link-neither (windows w) N.links bad i l s.0 s.1)

  found_at : (i l : ℕ) → is_over_in w N i l ≡ true → (b : Bound) × (test_link bad i l ≡ some (record { bound = b; from = i; link = l }))
  unfolding bad
  found_at i l h =
      ⊎_elim
      (λ e. (Bound.protected, link-protected (windows w) N.links bad i l e))
      (λ e. (Bound.total, link-total (windows w) N.links bad i l e (sym (ap (λ (b : Bool). b || bad i l Bound.total) e) ∙ h)))
      (bool_cases (bad i l Bound.protected))

  pub stuck-here : (i l : ℕ) → steps_kept i → links_kept i l → is_over_in w N i l ≡ true → i < windows w → l < N.links
      → Err (record { cause = NoEvenPlan; place = i + 1; second = l }) ≡ counted (stuck (first_overload w N (even N most_steps)))
  unfolding first_overload step_count even stuck bad Option-elim
  stuck-here i l ei el h hi hl =
      let f = found_at i l h in
      ap (λ (n : ℕ). Err (record { cause = NoEvenPlan; place = n; second = l })) (add-one i)
      ∙ sym (ap (λ o. counted (stuck o)) (scan-at (windows w) N.links bad i l _ ei el f.1 hi hl))

  pub stuck-nowhere : steps_kept (windows w) → Err (record { cause = NoEvenPlan; place = 0; second = 0 }) ≡ counted (stuck (first_overload w N (even N most_steps)))
  unfolding first_overload step_count even stuck Option-elim
  stuck-nowhere e = sym (ap (λ o. counted (stuck o)) (scan-end (windows w) N.links (worst_over w N (even N most_steps)) e))
