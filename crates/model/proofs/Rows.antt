-- The rows of a plan: what a plan is judged by, and the rows of even plans.
use Prim.Native.Nat.{ℕ, suc, ◌+◌, ◌-◌, ◌*◌, ◌≤◌, ◌<◌, min, max}
use mathlib.Core.Path.{◌≡◌, sym, ap, ap₂, ◌∙◌}
use mathlib.Core.Logic.{◌↔◌, ⊎_elim}
use mathlib.Core.Bool.{Bool, true, not, ◌&&◌}
use mathlib.Core.Option.{none, or_else}
use native.Mathlib.Omega.{arith}
use native.Mathlib.Nat.{eq-or-lt_of_le, le_of_suc-le-suc, le-max_left, le-max_right, min-le_left, min-le_right, mul-le-mul_left}
use borrow.Author.Tests.{eqb-true, eq-eqb, ne_eqb, le-leb, lt-leb}
use lib.Dec.{leb, eqb}
use Rattle.model.specs.Sum.{sum_over}
use Rattle.model.specs.Largest.{largest}
use Rattle.model.specs.Search.{only_if, is_none, first}
use Rattle.model.specs.Net.{Net, Plan, row}
use Rattle.model.specs.Scan.{scan}
use Rattle.model.specs.Rule.{on_link, exceeds, flow_sum, missed_by, between, missed_rate, missed_in, missed_row, step_count, reach, worst, worst_over, first_overload, accepted}
use Rattle.model.specs.Even.{even_row, even}
use Rattle.model.specs.OneRate.{OneRate}
use Rattle.model.proofs.Sums.{sum-cong, sum-line}
use Rattle.model.proofs.Searches.{order, only_none, only-false, or-none, first-none, none_first, first_cong, none_true, true-none, not-false, and-true}
use Rattle.model.proofs.Largests.{largest-cong}
use Rattle.model.proofs.Scans.{scan-cong}
use Rattle.model.proofs.Movers.{on_same, load-cong}

-- ---- the three kinds of row

module _ (N : Net) (P : Plan) (a t : ℕ) where
  pub row_first : a ≡ 0 → row N P a t ≡ P.parts * N.old t
  unfolding row
  row_first e = simp (eq-eqb a 0 e)

  pub row_last : a ≡ P.steps → 0 < a → row N P a t ≡ P.parts * N.new t
  unfolding row
  row_last e h = simp (ne_eqb a 0 (λ z. omega arith), eq-eqb a P.steps e)

  pub row-between : 0 < a → a < P.steps → row N P a t ≡ P.at a t
  unfolding row
  row-between h k = simp (ne_eqb a 0 (λ z. omega arith), ne_eqb a P.steps (λ z. omega arith))

  -- what holds of each kind holds of every row
  pub row-cases : {C : Type 0} → a ≤ P.steps → (a ≡ 0 → C) → (a ≡ P.steps → 0 < a → C) → (0 < a → a < P.steps → C) → C
  row-cases h at_first at_last inside =
      let low : 0 ≤ a = omega arith in
      ⊎_elim (λ z. at_first (sym z)) (λ p. ⊎_elim (λ e. at_last e p) (inside p) (eq-or-lt_of_le h)) (eq-or-lt_of_le low)

-- ---- a plan is judged by its parts, its steps, and the rows 1 to steps - 1 at the tunnels that there are

pub record Same (N : Net) (P Q : Plan) : Type 0 where
  pub parts : P.parts ≡ Q.parts
  pub steps : P.steps ≡ Q.steps
  pub at : (a t : ℕ) → 0 < a → a < P.steps → t < N.tunnels → P.at a t ≡ Q.at a t

module _ (N : Net) (P Q : Plan) (s : Same N P Q) where
  pub row_same : (a t : ℕ) → a ≤ P.steps → t < N.tunnels → row N P a t ≡ row N Q a t
  row_same a t h k =
      row-cases N P a t h
      (λ e. row_first N P a t e ∙ ap (λ (p : ℕ). p * N.old t) s.parts ∙ sym (row_first N Q a t e))
      (λ e p. row_last N P a t e p ∙ ap (λ (p : ℕ). p * N.new t) s.parts ∙ sym (row_last N Q a t (e ∙ s.steps) p))
      (λ p m. row-between N P a t p m ∙ s.at a t p m k ∙ sym (row-between N Q a t p (omega (arith, s.steps))))

  pub row-missed-same : missed_row N P ≡ missed_row N Q
  unfolding missed_row missed_in flow_sum
  row-missed-same =
      first_cong _ _ (suc P.steps) (λ a ha. first_cong _ _ N.flows (λ f hf.
      ap₂ (λ (p x : ℕ). only_if (not (between N p f x)) (record { place = a; second = f }))
      s.parts (sum-cong N.tunnels _ (λ t k _. row_same a t (le_of_suc-le-suc ha) k))))
      ∙ ap (λ (n : ℕ). first (suc n) (λ a. first N.flows (missed_in N Q a))) s.steps

  pub overload-same : (w : ℕ) → first_overload w N P ≡ first_overload w N Q
  unfolding first_overload step_count worst_over worst reach
  overload-same w =
      scan-cong (suc (P.steps - w)) N.links (worst_over w N P) (worst_over w N Q) (λ i l hi hl b.
      ap₂ (λ (parts v : ℕ). exceeds N b parts l v) s.parts
      (load-cong N b (λ m h.
      largest-cong (min (i + w) P.steps - i) _ _ (λ k g. on_same N l (λ t. row_same (i + k) t (omega arith)) m h)
      ∙ ap (λ (n : ℕ). largest (min (i + w) n - i) (λ k. on_link N l (row N Q (i + k)) m)) s.steps)))
      ∙ ap (λ (n : ℕ). scan (suc (n - w)) N.links (worst_over w N Q)) s.steps

-- ---- sums that lie between the rates

both_ways : (r s : ℕ) → (leb r s && leb s r) ≡ eqb s r
both_ways r s =
    ⊎_elim
    (λ (h : s ≤ r).
    ⊎_elim
    (λ (e : s ≡ r). ap₂ ◌&&◌ (le-leb r s (omega arith)) (le-leb s r h) ∙ sym (eq-eqb s r e))
    (λ (k : s < r). ap (λ (b : Bool). b && leb s r) (lt-leb r s k) ∙ sym (ne_eqb s r (λ e. omega arith)))
    (eq-or-lt_of_le h))
    (λ (h : r < s). ap₂ ◌&&◌ (le-leb r s (omega arith)) (lt-leb s r h) ∙ sym (ne_eqb s r (λ e. omega arith)))
    (order s r)

-- "An edition 1 file is read as if `next` equalled `rate`": then the sum is parts × rate
pub between-same : (N : Net) (parts f s : ℕ) → N.next f ≡ N.rate f → between N parts f s ≡ eqb s (parts * N.rate f)
unfolding between
between-same N parts f s e =
    let lo : min (N.rate f) (N.next f) ≡ N.rate f = omega arith in
    let hi : max (N.rate f) (N.next f) ≡ N.rate f = omega arith in
    rw (lo, hi) (both_ways (parts * N.rate f) s)

pub one-rate : (N : Net) → ((f : ℕ) → f < N.flows → N.next f ≡ N.rate f) → OneRate N
unfolding missed_rate missed_by missed_row missed_in
one-rate N e = record {
  rates = first_cong _ _ N.flows (λ f h.
      ap (λ (n : ℕ). or_else (only_if (not (eqb (flow_sum N N.old f) (N.rate f))) (record { place = f; second = 0 }))
      (only_if (not (eqb (flow_sum N N.new f) n)) (record { place = f; second = 1 }))) (e f h));
  rows = λ P. first_cong _ _ (suc P.steps) (λ a _. first_cong _ _ N.flows (λ f h.
      ap (λ (b : Bool). only_if (not b) (record { place = a; second = f })) (between-same N P.parts f (flow_sum N (row N P a) f) (e f h))));
}

lies-between : (N : Net) (parts f s : ℕ) → parts * min (N.rate f) (N.next f) ≤ s → s ≤ parts * max (N.rate f) (N.next f) → between N parts f s ≡ true
unfolding between
lies-between N parts f s h k = ap₂ ◌&&◌ (le-leb _ _ h) (le-leb _ _ k)

-- the sums of rate and of next do
pub rate-between : (N : Net) (parts f : ℕ) → between N parts f (parts * N.rate f) ≡ true
rate-between N parts f = lies-between N parts f _ (mul-le-mul_left parts (min-le_left (N.rate f) (N.next f))) (mul-le-mul_left parts (le-max_left (N.rate f) (N.next f)))

pub next-between : (N : Net) (parts f : ℕ) → between N parts f (parts * N.next f) ≡ true
next-between N parts f = lies-between N parts f _ (mul-le-mul_left parts (min-le_right (N.rate f) (N.next f))) (mul-le-mul_left parts (le-max_right (N.rate f) (N.next f)))

-- ---- accepted: rows that add up, and no overload

pub accepted-both : (w : ℕ) (N : Net) (P : Plan) → (accepted w N P ≡ true) ↔ ((missed_row N P ≡ none) × (first_overload w N P ≡ none))
unfolding accepted
accepted-both w N P = (
  λ e. let s = and-true (is_none (missed_row N P)) (is_none (first_overload w N P)) e in (none_true _ s.0, none_true _ s.1),
  λ h. ap₂ ◌&&◌ (true-none _ h.0) (true-none _ h.1),
)

-- ---- the rows of an even plan

pub even-row : (N : Net) (q a t : ℕ) → a ≤ q → row N (even N q) a t ≡ even_row N q a t
unfolding even even_row
even-row N q a t h =
    row-cases N (even N q) a t h
    (λ e. row_first N (even N q) a t e ∙ rw e (omega arith))
    (λ e p. row_last N (even N q) a t e p ∙ rw e (omega arith))
    (λ p m. row-between N (even N q) a t p m)

-- nothing is cut off: row a is (q - a) × old + a × new
pub even-at : (q a o n : ℕ) → a ≤ q → q * o + a * n - a * o ≡ (q - a) * o + a * n
even-at q a o n h = let e : (q - a) + a ≡ q = omega arith in omega (arith, ap (λ (k : ℕ). k * o) e)

-- any sum over a row
pub even_sum : (N : Net) (n : ℕ) (p : ℕ → Bool) (q a : ℕ) → a ≤ q
    → sum_over n p (even_row N q a) ≡ (q - a) * sum_over n p N.old + a * sum_over n p N.new
unfolding even_row
even_sum N n p q a h =
    sum-line n p (q - a) a (even_row N q a) N.old N.new (λ t _. even-at q a (N.old t) (N.new t) h)

-- where old amounts add up to the rates and new ones to the nexts, they do so flow by flow
pub rate-met : (N : Net) → missed_rate N ≡ none → (f : ℕ) → f < N.flows
    → (flow_sum N N.old f ≡ N.rate f) × (flow_sum N N.new f ≡ N.next f)
unfolding missed_rate missed_by
rate-met N e f h =
    let s = or-none _ _ (first-none _ N.flows e f h) in
    (eqb-true _ _ (not-false _ (only_none _ _ s.0)), eqb-true _ _ (not-false _ (only_none _ _ s.1)))

-- and every row of an even plan lies evenly between them
pub even-flow : (N : Net) (q a f : ℕ) → missed_rate N ≡ none → a ≤ q → f < N.flows
    → flow_sum N (row N (even N q) a) f ≡ (q - a) * N.rate f + a * N.next f
unfolding flow_sum
even-flow N q a f e ha hf =
    let s = rate-met N e f hf in
    sum-cong N.tunnels _ (λ t _ _. even-row N q a t ha) ∙ even_sum N _ _ q a ha ∙ ap₂ (λ (o n : ℕ). (q - a) * o + a * n) s.0 s.1

even-between : (N : Net) (q a f s : ℕ) → a ≤ q → s ≡ (q - a) * N.rate f + a * N.next f → between N q f s ≡ true
unfolding between
even-between N q a f s h e =
    let r : ℕ = N.rate f in
    let n : ℕ = N.next f in
    let k : (q - a) + a ≡ q = omega arith in
    ap₂ ◌&&◌
    (le-leb (q * min r n) s (omega (arith, ap (λ (m : ℕ). m * min r n) k, mul-le-mul_left (q - a) (min-le_left r n), mul-le-mul_left a (min-le_right r n))))
    (le-leb s (q * max r n) (omega (arith, ap (λ (m : ℕ). m * max r n) k, mul-le-mul_left (q - a) (le-max_left r n), mul-le-mul_left a (le-max_right r n))))

pub even-adds-up : (N : Net) (q : ℕ) → missed_rate N ≡ none → missed_row N (even N q) ≡ none
unfolding missed_row missed_in even
even-adds-up N q e =
    none_first _ _ (λ a ha. none_first _ N.flows (λ f hf.
    let h : a ≤ q = le_of_suc-le-suc ha in
    only-false _ _ (ap not (even-between N q a f _ h (even-flow N q a f e h hf)))))
