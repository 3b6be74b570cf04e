-- What bounds the counts: after stage i, those added are at most i parts of k of what is spare at a switch, and those that remain at most the other k - i.
use Prim.Native.Nat.{ℕ, zero, suc, ◌+◌, ◌-◌, ◌*◌, ◌≤◌, ◌<◌}
use mathlib.Core.Path.{◌≡◌, refl, ap}
use mathlib.Core.Logic.{⊎_elim}
use mathlib.Core.Bool.{true, false}
use native.Mathlib.Nat.{le_trans, mul-le-mul_left, mul-le-mul_right}
use native.Mathlib.Omega.{arith}
use borrow.Author.Tests.{not-false}
use Rattle.model.specs.Limits.{least_share, most_share}
use Rattle.model.specs.Sets.{in_set}
use Rattle.model.specs.Even.{ceil_div}
use Rattle.model.proofs.Bounded.{ceil-ge, ceil-least}
use Rattle.model.proofs.Searches.{bool_cases}
use Rattle.rules.specs.Rules.{Rules, remove, is_kind, rule, count, last_stage, spare}
use Rattle.rules.specs.Stage.{adds, removes, Stages, moved, waits, goes, given, turn, pass, stage, stages}
use Rattle.rules.proofs.Counts.{within-at, count-who, count-moved, count-kind}
use Rattle.rules.proofs.Passes.{moved-is, turn-cases, pass-stayed, pass-fewer, other-moved}

-- ---- the last stage

module _ (R : Rules) (h : (least_share ≤ R.slack) × (R.slack ≤ most_share)) where
  -- there are stages enough: slack times one more of them is the whole
  pub last-slack : 1000 ≤ suc (last_stage R) * R.slack
  unfolding last_stage
  last-slack =
      let enough : ceil_div 1000 R.slack ≤ suc (last_stage R) = omega arith in
      omega (arith, ceil-ge 1000 R.slack (omega (arith, h)), mul-le-mul_right R.slack enough)

  pub last-pos : 1 ≤ last_stage R
  unfolding last_stage
  last-pos = omega (arith, ceil-least R.slack (omega (arith, h)) h.1)

-- one rule at a switch that is crossed, none at others
pub rule-one : (R : Rules) (s t : ℕ) → in_set (R.via t) s ≡ true → rule R s t ≡ 1
unfolding rule
rule-one R s t e = rw e

pub rule-none : (R : Rules) (s t : ℕ) → in_set (R.via t) s ≡ false → rule R s t ≡ 0
unfolding rule
rule-none R s t e = rw e

module _ (R : Rules) (s : ℕ) (h : s < R.switches) where
  abbrev k : ℕ
  k = last_stage R

  abbrev added : Stages → ℕ
  added f = count R (moved R adds f) s

  abbrev remaining : Stages → ℕ
  remaining f = count R (waits R removes f) s

  -- ---- what the tests say of a switch that the tunnel crosses

  added-test : (i : ℕ) (f : Stages) (t : ℕ) → goes R adds i f t ≡ true → in_set (R.via t) s ≡ true → 1000 * k * (added f + 1) ≤ i * spare R s
  unfolding goes
  added-test i f t g e = omega (arith, within-at R i _ t g s h e)

  remaining-test : (i d : ℕ) (f : Stages) (t : ℕ) → i + d ≡ k → goes R removes i f t ≡ false → in_set (R.via t) s ≡ true → 1000 * k * remaining f ≤ d * spare R s
  unfolding goes
  remaining-test i d f t q g e =
      let m : k - i ≡ d = omega (arith, q) in
      omega (arith, within-at R (k - i) _ t (not-false _ g) s h e, ap (λ (n : ℕ). n * spare R s) m)

  -- ---- adding

  -- the test of a tunnel that goes in is that of the count with it
  add_turn : (i : ℕ) (f : Stages) (t : ℕ) → t < R.tunnels → 1000 * k * added f ≤ suc i * spare R s
      → 1000 * k * added (turn R adds (suc i) f t) ≤ suc i * spare R s
  add_turn i f t l b =
      ⊎_elim
      (λ c.
      let more = count-moved R s adds f t i l c.0 in
      rw c.2
      (⊎_elim
      (λ (e : in_set (R.via t) s ≡ true).
      let now : added (given true t (suc i) f) ≡ added f + 1 = omega (arith, more, rule-one R s t e) in
      rw now (added-test (suc i) f t c.1 e))
      (λ (e : in_set (R.via t) s ≡ false).
      let now : added (given true t (suc i) f) ≡ added f = omega (arith, more, rule-none R s t e) in
      rw now b)
      (bool_cases (in_set (R.via t) s))))
      (λ c. rw c.1 b)
      (turn-cases R adds (suc i) f t)

  add-pass : (i : ℕ) (f : Stages) (n : ℕ) → n ≤ R.tunnels → 1000 * k * added f ≤ suc i * spare R s
      → 1000 * k * added (pass R adds (suc i) f n) ≤ suc i * spare R s
  unfolding pass
  add-pass i f zero l b = b
  add-pass i f (suc n) l b = add_turn i (pass R adds (suc i) f n) n (omega (arith, l)) (add-pass i f n (omega (arith, l)) b)

  pub added-most : (i : ℕ) → 1000 * k * added (stages R i) ≤ i * spare R s
  unfolding stages stage
  added-most zero = ⊎_elim (λ (e : added (stages R 0) ≡ 0). rw e (omega arith)) (λ r. absurd (moved-is R adds (stages R 0) r.0 r.2 refl)) (count-who R s (moved R adds (stages R 0)))
  added-most (suc i) =
      let f = stages R i in
      let n = R.tunnels in
      let before : 1000 * k * added f ≤ suc i * spare R s = omega (arith, added-most i) in
      rw (other-moved R removes adds (suc i) (pass R adds (suc i) f n) n s (λ e. omega (arith, e))) (add-pass i f n (omega arith) before)

  -- ---- removing

  -- after a pass, a tunnel across the switch that still waits was tested when no fewer remained
  stayed : (i d : ℕ) (f : Stages) (u : ℕ) → suc i + d ≡ k → u < R.tunnels → waits R removes (pass R removes (suc i) f R.tunnels) u ≡ true → in_set (R.via u) s ≡ true
      → 1000 * k * remaining (pass R removes (suc i) f R.tunnels) ≤ d * spare R s
  stayed i d f u q l w e =
      le_trans (mul-le-mul_left (1000 * k) (pass-fewer R removes i f s u R.tunnels (omega (arith, l)) (omega arith)))
      (remaining-test (suc i) d _ u q (pass-stayed R removes (suc i) f R.tunnels (omega arith) u l w).1 e)

  pub remaining-most : (i d : ℕ) → i + d ≡ k → 1000 * count R (is_kind R remove) s ≤ spare R s → 1000 * k * remaining (stages R i) ≤ d * spare R s
  unfolding stages stage
  remaining-most zero d q fits =
      let e : d ≡ k = omega (arith, q) in
      let few : remaining (stages R 0) ≤ count R (is_kind R remove) s = omega (arith, count-kind R s removes (stages R 0)) in
      rw e (omega (arith, mul-le-mul_left k fits, mul-le-mul_left (1000 * k) few))
  remaining-most (suc i) d q fits =
      let n = R.tunnels in
      let g : Stages = pass R adds (suc i) (stages R i) n in
      let last : Stages = pass R removes (suc i) g n in
      ⊎_elim
      (λ (e : remaining last ≡ 0). rw e (omega arith))
      (λ r. stayed i d g r.0 q r.1 r.2 r.3)
      (count-who R s (waits R removes last))
