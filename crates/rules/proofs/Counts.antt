-- Laws of tests at every switch, and of the counts at a switch.
use Prim.Native.Nat.{ℕ, zero, suc, ◌+◌, ◌*◌, ◌≤◌, ◌<◌}
use mathlib.Core.Path.{◌≡◌, refl, sym, ap, ◌∙◌}
use mathlib.Core.Logic.{◌≢◌, ◌⊎◌, inl, inr, ⊎_elim}
use mathlib.Core.Bool.{Bool, true, false, cond, not, ◌&&◌, ◌||◌}
use native.Mathlib.Nat.{eq-or-lt_of_le, le_of_suc-le-suc, add-zero}
use native.Mathlib.Omega.{arith}
use lib.Dec.{leb, eqb}
use borrow.Author.Tests.{le-leb, leb-true, lt-leb, eq-eqb, ne_eqb, eqb-true}
use Rattle.model.specs.Sum.{sum_over}
use Rattle.model.specs.Sets.{in_set}
use Rattle.model.proofs.Sums.{sum-add, sum-all, sum_mono, sum-cong, sum_both, sum_one}
use Rattle.model.proofs.Searches.{bool_cases, and-true}
use Rattle.rules.specs.Rules.{Rules, is_kind, rule, count, last_stage, spare}
use Rattle.rules.specs.Stage.{Move, kind_of, Stages, moved, waits, every, within, given}

-- ---- a test at every number below n

pub every-at : (n : ℕ) (p : ℕ → Bool) → every n p ≡ true → (i : ℕ) → i < n → p i ≡ true
unfolding every
every-at zero p e i h = absurd (omega arith)
every-at (suc n) p e i h =
    let s = and-true (every n p) (p n) e in
    ⊎_elim (λ (k : i ≡ n). ap p k ∙ s.1) (λ (k : i < n). every-at n p s.0 i k) (eq-or-lt_of_le (le_of_suc-le-suc h))

pub every-all : (n : ℕ) (p : ℕ → Bool) → ((i : ℕ) → i < n → p i ≡ true) → every n p ≡ true
unfolding every
every-all zero p h = refl
every-all (suc n) p h = rw (every-all n p (λ i k. h i (omega arith)), h n (omega arith))

pub and_none : (b : Bool) → (b && false) ≡ false
and_none true = refl
and_none false = refl

pub every-not : (n : ℕ) (p : ℕ → Bool) (i : ℕ) → i < n → p i ≡ false → every n p ≡ false
unfolding every
every-not zero p i h e = absurd (omega arith)
every-not (suc n) p i h e =
    ⊎_elim
    (λ (k : i ≡ n). let z : p n ≡ false = ap p (sym k) ∙ e in rw z (and_none (every n p)))
    (λ (k : i < n). rw (every-not n p i k e))
    (eq-or-lt_of_le (le_of_suc-le-suc h))

module _ (R : Rules) (times : ℕ) (n : ℕ → ℕ) (t : ℕ) where
  pub within-at : within R times n t ≡ true → (s : ℕ) → s < R.switches → in_set (R.via t) s ≡ true → 1000 * last_stage R * n s ≤ times * spare R s
  unfolding within
  within-at e s h k =
      leb-true (1000 * last_stage R * n s) (times * spare R s)
      (rw k at (every-at R.switches (λ s. not (in_set (R.via t) s) || leb (1000 * last_stage R * n s) (times * spare R s)) e s h))

  pub within_all : ((s : ℕ) → s < R.switches → in_set (R.via t) s ≡ true → 1000 * last_stage R * n s ≤ times * spare R s) → within R times n t ≡ true
  unfolding within
  within_all h =
      every-all R.switches _
      (λ s k.
      ⊎_elim
      (λ (e : in_set (R.via t) s ≡ true). rw e (le-leb (1000 * last_stage R * n s) (times * spare R s) (h s k e)))
      (λ (e : in_set (R.via t) s ≡ false). rw e)
      (bool_cases (in_set (R.via t) s)))

  pub within-not : (s : ℕ) → s < R.switches → in_set (R.via t) s ≡ true → times * spare R s < 1000 * last_stage R * n s → within R times n t ≡ false
  unfolding within
  within-not s h e k = every-not R.switches _ s h (rw (e, lt-leb (1000 * last_stage R * n s) (times * spare R s) k))

-- ---- sums of those that a test picks

-- a sum that is not 0 has a summand that is not 0
pub sum-some : (n : ℕ) (p : ℕ → Bool) (x : ℕ → ℕ) → (sum_over n p x ≡ 0) ⊎ ((t : ℕ) × (t < n) × (p t ≡ true) × (x t ≢ 0))
unfolding sum_over
sum-some zero p x = inl refl
sum-some (suc n) p x =
    ⊎_elim
    (λ e. ⊎_elim (λ k. inl (omega (arith, e, k))) (λ k. inr (n, omega arith, k.0, k.1)) (here (p n) (x n)))
    (λ r. inr (r.0, omega (arith, r.1), r.2, r.3))
    (sum-some n p x)
  where
    here : (b : Bool) (v : ℕ) → (cond b v 0 ≡ 0) ⊎ ((b ≡ true) × (v ≢ 0))
    here true zero = inl refl
    here true (suc v) = inr (refl, λ e. omega (arith, e))
    here false v = inl refl

-- the sum of one summand
pub sum-single : (n i : ℕ) (x : ℕ → ℕ) → i < n → sum_over n (λ t. eqb t i) x ≡ x i
unfolding sum_over
sum-single zero i x h = absurd (omega arith)
sum-single (suc n) i x h =
    ⊎_elim
    (λ (k : i ≡ n). rw (eq-eqb n i (sym k)) (omega (arith, none n (omega (arith, k)), ap x k)))
    (λ (k : i < n). rw (ne_eqb n i (λ e. omega (arith, e, k))) (omega (arith, sum-single n i x k)))
    (eq-or-lt_of_le (le_of_suc-le-suc h))
  where
    none : (m : ℕ) → m ≤ i → sum_over m (λ t. eqb t i) x ≡ 0
    none zero h = refl
    none (suc m) h = rw (ne_eqb m i (λ e. omega (arith, e, h))) (omega (arith, none m (omega (arith, h))))

-- ---- counts

module _ (R : Rules) (s : ℕ) where
  -- those that a test picks are at most those that three others pick, if each of them is one of these
  pub count-three : (p a b c : ℕ → Bool) → ((t : ℕ) → t < R.tunnels → p t ≡ true → (a t ≡ true) ⊎ ((b t ≡ true) ⊎ (c t ≡ true)))
      → count R p s ≤ count R a s + count R b s + count R c s
  unfolding count
  count-three p a b c h =
      let n = R.tunnels in
      let x = rule R s in
      let each : (q : ℕ → Bool) → sum_over n (λ t. true) (λ t. cond (q t) (x t) 0) ≡ sum_over n q x = λ q. sum-all n q x in
      let less : sum_over n (λ t. true) (λ t. cond (p t) (x t) 0) ≤ sum_over n (λ t. true) (λ t. cond (a t) (x t) 0 + cond (b t) (x t) 0 + cond (c t) (x t) 0)
      = sum_mono n (λ t. true) (λ t k _. one (p t) (a t) (b t) (c t) (x t) (h t k)) in
      omega (
        arith,
        less,
        each p,
        each a,
        each b,
        each c,
        sum-add n (λ t. true) (λ t. cond (a t) (x t) 0 + cond (b t) (x t) 0) (λ t. cond (c t) (x t) 0),
        sum-add n (λ t. true) (λ t. cond (a t) (x t) 0) (λ t. cond (b t) (x t) 0),
      )
    where
      one : (p a b c : Bool) (v : ℕ) → (p ≡ true → (a ≡ true) ⊎ ((b ≡ true) ⊎ (c ≡ true))) → cond p v 0 ≤ cond a v 0 + cond b v 0 + cond c v 0
      one false a b c v h = omega arith
      one true a b c v h =
          ⊎_elim (λ (e : a ≡ true). rw e (omega arith)) (⊎_elim (λ (e : b ≡ true). rw e (omega arith)) (λ (e : c ≡ true). rw e (omega arith))) (h refl)

  pub count-cong : (p q : ℕ → Bool) → ((t : ℕ) → t < R.tunnels → p t ≡ q t) → count R p s ≡ count R q s
  unfolding count
  count-cong p q h =
      let n = R.tunnels in
      sym (sum-all n p (rule R s)) ∙ sum-cong n (λ t. true) (λ t k _. ap (λ (b : Bool). cond b (rule R s t) 0) (h t k)) ∙ sum-all n q (rule R s)

  -- a tunnel across the switch that the test picks is counted
  pub count-some : (p : ℕ → Bool) (t : ℕ) → t < R.tunnels → p t ≡ true → in_set (R.via t) s ≡ true → 1 ≤ count R p s
  unfolding count rule
  count-some p t h e k = let one : rule R s t ≡ 1 = rw k in omega (arith, one, sum_one R.tunnels t p (rule R s) h e)

  -- where any is counted, there is a tunnel across the switch that the test picks
  pub count-who : (p : ℕ → Bool) → (count R p s ≡ 0) ⊎ ((t : ℕ) × (t < R.tunnels) × (p t ≡ true) × (in_set (R.via t) s ≡ true))
  unfolding count rule
  count-who p =
      ⊎_elim inl
      (λ r.
      inr (r.0, r.1, r.2, ⊎_elim (λ e. e) (λ (e : in_set (R.via r.0) s ≡ false). absurd (r.3 (rw e))) (bool_cases (in_set (R.via r.0) s))))
      (sum-some R.tunnels p (rule R s))

  -- those that have a stage and those that wait are all of their kind
  pub count-kind : (m : Move) (f : Stages) → count R (moved R m f) s + count R (waits R m f) s ≡ count R (is_kind R (kind_of m)) s
  unfolding count moved waits
  count-kind m f = sum_both R.tunnels (moved R m f) (waits R m f) (is_kind R (kind_of m)) (rule R s) (λ t u. either (is_kind R (kind_of m) t) (eqb (f t) 0) u)
    where
      either : (a b : Bool) (u : ℕ) → cond (a && not b) u 0 + cond (a && b) u 0 ≡ cond a u 0
      either false b u = refl
      either true true u = omega arith
      either true false u = add-zero u

  -- a tunnel that waits and is given a stage is one more of those that have one, and one less of those that wait
  module _ (m : Move) (f : Stages) (t i : ℕ) (h : t < R.tunnels) (w : waits R m f t ≡ true) where
    pub count-moved : count R (moved R m (given true t (suc i) f)) s ≡ count R (moved R m f) s + rule R s t
    unfolding count moved waits given
    count-moved =
        omega (arith, sum_both R.tunnels (moved R m f) (λ u. eqb u t) (moved R m (given true t (suc i) f)) (rule R s) each, sum-single R.tunnels t (rule R s) h)
      where
        was : (is_kind R (kind_of m) t ≡ true) × (eqb (f t) 0 ≡ true)
        was = and-true (is_kind R (kind_of m) t) (eqb (f t) 0) w

        each : (u v : ℕ) → cond (moved R m f u) v 0 + cond (eqb u t) v 0 ≡ cond (moved R m (given true t (suc i) f) u) v 0
        each u v =
            ⊎_elim
            (λ (e : eqb u t ≡ true). let k : u ≡ t = eqb-true u t e in rw k (rw (eq-eqb t t refl, was.0, was.1, ne_eqb (suc i) 0 (λ z. omega (arith, z))) (omega arith)))
            (λ (e : eqb u t ≡ false). rw e (add-zero _))
            (bool_cases (eqb u t))

    pub count-waits : count R (waits R m f) s ≡ count R (waits R m (given true t (suc i) f)) s + rule R s t
    count-waits = omega (arith, count-moved, count-kind m f, count-kind m (given true t (suc i) f))
