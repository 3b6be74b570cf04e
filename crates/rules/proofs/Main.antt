-- The claim, proved.
use Prim.Native.Nat.{ℕ, zero, suc, ◌+◌, ◌-◌, ◌*◌, ◌≤◌, ◌<◌}
use mathlib.Core.Path.{◌≡◌, refl, sym, ap, ◌∙◌}
use mathlib.Core.Logic.{◌≢◌, ◌⊎◌, inl, inr, ⊎_elim}
use mathlib.Core.Bool.{Bool, true, false, cond, not, true≢false}
use mathlib.Core.List.{List}
use mathlib.Core.Option.{Option, none, some, or_else}
use native.Mathlib.Nat.{mul-le-mul_right, le_of_mul-le-mul_left}
use native.Mathlib.Omega.{arith}
use lib.Dec.{T, leb, ltb, eqb}
use lib.ListN.{length}
use borrow.Author.Tests.{leb-true, leb-false, ltb-true, ltb-false, le-leb, lt-leb, eqb-true, eqb-false}
use Rattle.model.specs.Search.{only_if}
use Rattle.model.specs.Listed.{listed}
use Rattle.model.specs.Outcome.{good, unless, Place}
use Rattle.model.specs.declared.Cause.TheVariants.{Unfit as unfit}
use Rattle.model.proofs.Searches.{bool_cases, not-true, first-none, none_first, or-none, only_none}
use Rattle.model.proofs.Listed.{listed-length, listed_at}
use Rattle.lists.specs.Lists.{at}
use Rattle.forms.specs.Read.{judge_list}
use Rattle.forms.specs.declared.form.Form.TheVariants as forms
use Rattle.forms.proofs.Walks.{then-good}
use Rattle.rules.specs.Rules.{Rules, keep, add, remove, is_kind, count, last_stage, usable, spare}
use Rattle.rules.specs.Stage.{adds, removes, Stages, moved, waits, stages, too_many, unfit_at, lowest_unfit, staged}
use Rattle.rules.specs.Lists.{rules_of, staged_list, GoodRules}
use Rattle.rules.specs.Claim.{is_done, holds, whole, sofar, Safe, Fit, Claim}
use Rattle.rules.proofs.Good.{good-rules}
use Rattle.rules.proofs.Longest.{longest}
use Rattle.rules.proofs.Counts.{count-three}
use Rattle.rules.proofs.Passes.{kind-is, is-kind, not-kind, is-not-kind, is-waiting, is-moved, stages-le, stages-kept, given-early, given-late}
use Rattle.rules.proofs.Bounds.{last-pos, last-slack, added-most, remaining-most}
use Rattle.rules.proofs.Finish.{Valid, Fits, all_in, all-out}

-- ---- where no refusal is due

-- a list that is given is that of all stages, and both sets fit
pub staged-good : (R : Rules) (l : List ℕ) → staged R ≡ good l → (lowest_unfit R ≡ none) × (l ≡ listed R.tunnels (stages R (last_stage R)))
unfolding staged
staged-good R l e = go (lowest_unfit R) e
  where
    go : (o : Option Place) → unless unfit o (good (listed R.tunnels (stages R (last_stage R)))) ≡ good l → (o ≡ none) × (l ≡ listed R.tunnels (stages R (last_stage R)))
    go none e = (refl, cc)
    go (some p) e = let z : ◌≡◌ {A = ℕ} 0 1 = cc in absurd (omega arith)

pub fits-none : (R : Rules) → lowest_unfit R ≡ none → (s : ℕ) → s < R.switches
    → (1000 * (count R (is_kind R keep) s + count R (is_kind R remove) s) ≤ usable R s) × (1000 * (count R (is_kind R keep) s + count R (is_kind R add) s) ≤ usable R s)
unfolding unfit_at too_many
fits-none R e s h =
    let z = or-none _ _ (first-none (unfit_at R) R.switches e s h) in (ltb-false _ _ (only_none _ _ z.0), ltb-false _ _ (only_none _ _ z.1))

pub fits : (R : Rules) → lowest_unfit R ≡ none → Fits R
unfolding spare
fits R e = record { new = λ s h. omega (arith, (fits-none R e s h).1); old = λ s h. omega (arith, (fits-none R e s h).0) }

-- ---- two sums

-- i parts of what is spare, the other d parts, and the kept ones are all that may be used
free-sum : (i d x kept a r u : ℕ) → 1 ≤ i + d → 1000 * kept + x ≡ u → 1000 * (i + d) * a ≤ i * x → 1000 * (i + d) * r ≤ d * x → 1000 * (kept + a + r) ≤ u
free-sum i d x kept a r u pos e ha hr =
    le_of_mul-le-mul_left {k = i + d} (omega (arith, ap (λ (n : ℕ). (i + d) * n) e)) pos

-- one part more is no more than the slack
room-sum : (i d x kept a r slack room : ℕ) → 1 ≤ i + d → slack ≤ 1000 → 1000 ≤ suc (i + d) * slack → 1000 * kept + x ≡ (1000 - slack) * room
    → 1000 * (i + d) * a ≤ suc i * x → 1000 * (i + d) * r ≤ d * x → kept + a + r ≤ room
room-sum i d x kept a r slack room pos most ceil e ha hr =
    let free : ℕ = 1000 - slack in
    let both : free + slack ≡ 1000 = omega (arith, most) in
    let product : (free + slack) * room ≡ 1000 * room = ap (λ (n : ℕ). n * room) both in
    let slacks : 1000 * room ≤ suc (i + d) * slack * room = mul-le-mul_right room ceil in
    let eq : 1000 * kept + x ≡ free * room = e in
    le_of_mul-le-mul_left {k = 1000 * (i + d)}
    (omega (arith, ha, hr, eq, slacks, ap (λ (n : ℕ). suc (i + d) * n) product, ap (λ (n : ℕ). (i + d) * n) eq)) (omega (arith, pos))

-- ---- what is done

module _ (f : Stages) (i : ℕ) (c : ℕ → Bool) (t : ℕ) where
  done-by : is_done f i c t ≡ true → f t ≤ i
  unfolding is_done
  done-by e = go (c t) e
    where
      go : (b : Bool) → cond b (leb (f t) i) (ltb (f t) i) ≡ true → f t ≤ i
      go true e = leb-true (f t) i e
      go false e = omega (arith, ltb-true (f t) i e)

  not_done : is_done f i c t ≡ false → i ≤ f t
  unfolding is_done
  not_done e = go (c t) e
    where
      go : (b : Bool) → cond b (leb (f t) i) (ltb (f t) i) ≡ false → i ≤ f t
      go true e = omega (arith, leb-false (f t) i e)
      go false e = ltb-false (f t) i e

  -- one that c picks
  picked-later : T (c t) → is_done f i c t ≡ false → i < f t
  unfolding is_done
  picked-later p e = go (c t) p e
    where
      go : (b : Bool) → T b → cond b (leb (f t) i) (ltb (f t) i) ≡ false → i < f t
      go true p e = leb-false (f t) i e
      go false p e = absurd p

-- after a stage
whole-done : (f : Stages) (i t : ℕ) → f t ≤ i → is_done f i whole t ≡ true
unfolding is_done
whole-done f i t h = le-leb (f t) i h

whole-not : (f : Stages) (i t : ℕ) → i < f t → is_done f i whole t ≡ false
unfolding is_done
whole-not f i t h = lt-leb (f t) i h

-- ---- what the switches hold

three : (n : ℕ) → (keep ≤ n) × (n ≤ remove) → (n ≡ keep) ⊎ ((n ≡ add) ⊎ (n ≡ remove))
three n h =
    ⊎_elim (λ e. inl (eqb-true n keep e))
    (λ a.
    ⊎_elim (λ e. inr (inl (eqb-true n add e))) (λ b. inr (inr (omega (arith, h, eqb-false n keep a, eqb-false n add b)))) (bool_cases (eqb n add)))
    (bool_cases (eqb n keep))

module _ (R : Rules) (f : Stages) (i : ℕ) (c : ℕ → Bool) (t : ℕ) (v : (keep ≤ R.kind t) × (R.kind t ≤ remove)) where
  -- a tunnel whose move is done is held if it is in the new set, another if it is in the old one
  holds-new : is_done f i c t ≡ true → holds R f i c t ≡ not (is_kind R remove t)
  unfolding holds is_kind
  holds-new d =
      ⊎_elim (λ (e : R.kind t ≡ keep). rw e) (⊎_elim (λ (e : R.kind t ≡ add). rw (e, d)) (λ (e : R.kind t ≡ remove). rw (e, d))) (three (R.kind t) v)

  holds-old : is_done f i c t ≡ false → holds R f i c t ≡ not (is_kind R add t)
  unfolding holds is_kind
  holds-old d =
      ⊎_elim (λ (e : R.kind t ≡ keep). rw e) (⊎_elim (λ (e : R.kind t ≡ add). rw (e, d)) (λ (e : R.kind t ≡ remove). rw (e, d))) (three (R.kind t) v)

  held : holds R f i c t ≡ true
      → (is_kind R keep t ≡ true) ⊎ (((R.kind t ≡ add) × (is_done f i c t ≡ true)) ⊎ ((R.kind t ≡ remove) × (is_done f i c t ≡ false)))
  held h =
      ⊎_elim
      (λ d.
      let other = not-true _ (sym (holds-new d) ∙ h) in
      ⊎_elim (λ e. inl (is-kind R keep t e)) (⊎_elim (λ e. inr (inl (e, d))) (λ e. absurd (true≢false (sym (is-kind R remove t e) ∙ other)))) (three (R.kind t) v))
      (λ d.
      let other = not-true _ (sym (holds-old d) ∙ h) in
      ⊎_elim (λ e. inl (is-kind R keep t e)) (⊎_elim (λ e. absurd (true≢false (sym (is-kind R add t e) ∙ other))) (λ e. inr (inr (e, d)))) (three (R.kind t) v))
      (bool_cases (is_done f i c t))

-- ---- the stages of a list that is given

module _ (R : Rules) (l : List ℕ) (v : Valid R) (g : staged R ≡ good l) where
  abbrev k : ℕ
  k = last_stage R

  fit : Fits R
  fit = fits R (staged-good R l g).0

  told : (t : ℕ) → t < R.tunnels → at l t ≡ stages R k t
  told t h = ap (λ (m : List ℕ). at m t) (staged-good R l g).1 ∙ listed_at R.tunnels (stages R k) t h

  has-stage : (t : ℕ) → t < R.tunnels → R.kind t ≢ keep → at l t ≢ 0
  has-stage t h n z =
      let none = sym (told t h) ∙ z in
      ⊎_elim n (⊎_elim (λ e. all_in R v fit t h e none) (λ e. all-out R v fit t h e none)) (three (R.kind t) (v.kind t h))

  last-le : (t : ℕ) → t < R.tunnels → at l t ≤ k
  last-le t h = omega (arith, told t h, stages-le R k t)

  kept-used : (s : ℕ) → s < R.switches → 1000 * count R (is_kind R keep) s + spare R s ≡ usable R s
  unfolding spare
  kept-used s h = omega (arith, (fits-none R (staged-good R l g).0 s h).0)

  -- the switches hold those kept, those added by the end of stage i, and those that remained after stage j
  holds-most : (i j s : ℕ) (c : ℕ → Bool) → i ≤ k → j ≤ k → ((t : ℕ) → t < R.tunnels → is_done (at l) i c t ≡ false → j < at l t)
      → count R (holds R (at l) i c) s ≤ count R (is_kind R keep) s + count R (moved R adds (stages R i)) s + count R (waits R removes (stages R j)) s
  holds-most i j s c hi hj out =
      count-three R s (holds R (at l) i c) (is_kind R keep) (moved R adds (stages R i)) (waits R removes (stages R j))
      (λ t h e.
      ⊎_elim inl
      (⊎_elim
      (λ a.
      let early : stages R k t ≤ i = omega (arith, done-by (at l) i c t a.1, told t h) in
      inr (inl (is-moved R adds (stages R i) t a.0 (λ z. all_in R v fit t h a.0 (sym (given-early R i k t hi early) ∙ z)))))
      (λ a.
      let late : j < stages R k t = omega (arith, out t h a.1, told t h) in
      inr (inr (is-waiting R removes (stages R j) t a.0 (given-late R j k t hj late)))))
      (held R (at l) i c t (v.kind t h) e))

  -- where what is not done by then comes in a later stage
  free : (i s : ℕ) (c : ℕ → Bool) → i ≤ k → s < R.switches → ((t : ℕ) → t < R.tunnels → is_done (at l) i c t ≡ false → i < at l t)
      → 1000 * count R (holds R (at l) i c) s ≤ usable R s
  free i s c hi h out =
      let d : ℕ = k - i in
      let e : i + d ≡ k = omega (arith, hi) in
      let all = holds-most i i s c hi hi out in
      let sum = free-sum i d (spare R s) (count R (is_kind R keep) s) (count R (moved R adds (stages R i)) s) (count R (waits R removes (stages R i)) s) (usable R s) (rw e (last-pos R v.slack)) (kept-used s h)
      (rw e (added-most R s h i)) (rw e (remaining-most R s h i d e (fit.old s h))) in
      omega (arith, all, sum)

  within : (i s : ℕ) → 1 ≤ i → i ≤ k → s < R.switches → (c : ℕ → Bool) → count R (holds R (at l) i c) s ≤ R.room s
  unfolding usable
  within zero s lo hi h c = absurd (omega (arith, lo))
  within (suc j) s lo hi h c =
      let d : ℕ = k - j in
      let e : j + d ≡ k = omega (arith, hi) in
      let all = holds-most (suc j) j s c hi (omega (arith, hi)) (λ t _ n. not_done (at l) (suc j) c t n) in
      let sum = room-sum j d (spare R s) (count R (is_kind R keep) s) (count R (moved R adds (stages R (suc j))) s) (count R (waits R removes (stages R j)) s) R.slack (R.room s)
      (rw e (last-pos R v.slack)) (omega (arith, v.slack.1)) (rw e (last-slack R v.slack)) (kept-used s h)
      (rw e (added-most R s h (suc j))) (rw e (remaining-most R s h j d e (fit.old s h))) in
      omega (arith, all, sum)

  begins : (t : ℕ) → t < R.tunnels → holds R (at l) 0 whole t ≡ not (is_kind R add t)
  begins t h =
      ⊎_elim
      (λ e.
      let kept = kind-is R keep t e in
      holds-new R (at l) 0 whole t (v.kind t h) (whole-done (at l) 0 t (omega (arith, told t h, stages-kept R k t kept)))
      ∙ ap not (not-kind R remove t (λ z. omega (arith, z, kept)) ∙ sym (not-kind R add t (λ z. omega (arith, z, kept)))))
      (λ e. holds-old R (at l) 0 whole t (v.kind t h) (whole-not (at l) 0 t (omega (arith, has-stage t h (is-not-kind R keep t e)))))
      (bool_cases (is_kind R keep t))

  safe : Safe R l
  safe = record {
    size = ap length (staged-good R l g).1 ∙ listed-length R.tunnels (stages R k);
    kept = λ t h e. told t h ∙ stages-kept R k t e;
    moved = λ t h n. (omega (arith, has-stage t h n), last-le t h);
    begins = begins;
    ends = λ t h. holds-new R (at l) k whole t (v.kind t h) (whole-done (at l) k t (last-le t h));
    free = λ i s hi h. free i s _ hi h (λ t _. picked-later (at l) i _ t tt);
    within = within;
    moments = λ i s lo hi h m n. within i s lo hi h (sofar R m n);
  }

good-valid : (l : List ℕ) → GoodRules l → Valid (rules_of l)
unfolding rules_of
good-valid l g = record { slack = g.slack; via = g.via; kind = g.kind }

given : (R : Rules) → Fit R → staged R ≡ good (listed R.tunnels (stages R (last_stage R)))
unfolding staged unfit_at only_if or_else
given R f =
    let fit : lowest_unfit R ≡ none = none_first (unfit_at R) R.switches (λ s h. rw (f.old s h, f.new s h)) in
    rw fit

list-safe : (input l : List ℕ) → staged_list input ≡ good l → Safe (rules_of input) l
list-safe input l e =
    let p = then-good (judge_list forms.Rules input) (λ g. staged (rules_of g)) l e in
    let j = good-rules input p.0 p.1 in
    safe (rules_of input) l (good-valid input j.1) (rw j.0 at p.2)

pub claim : Claim
claim =
    record {
      safe = list-safe;
      given = λ input j f. let R = rules_of input in (listed R.tunnels (stages R (last_stage R)), rw j (given R f));
      longest = longest;
    }
