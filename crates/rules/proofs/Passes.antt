-- Laws of a turn, of a pass and of the stages: which tunnels they give a stage, and which they leave.
use Prim.Native.Nat.{ℕ, zero, suc, ◌≤◌, ◌<◌}
use mathlib.Core.Path.{◌≡◌, refl, sym, ap, ◌∙◌}
use mathlib.Core.Logic.{◌≢◌, ◌⊎◌, inl, inr, ⊎_elim}
use mathlib.Core.Bool.{Bool, true, false, cond, not, ◌&&◌}
use native.Mathlib.Nat.{eq-or-lt_of_le, le_of_suc-le-suc}
use native.Mathlib.Omega.{arith}
use lib.Dec.{leb, eqb}
use borrow.Author.Tests.{le-leb, lt-leb, eq-eqb, ne_eqb, eqb-true, eqb-false}
use Rattle.model.proofs.Searches.{bool_cases, and-true, not-true}
use Rattle.rules.specs.Rules.{Rules, keep, is_kind, count}
use Rattle.rules.specs.Stage.{Move, adds, removes, kind_of, Stages, moved, waits, goes, given, turn, pass, stage, stages}
use Rattle.rules.proofs.Counts.{count-cong, count-kind, count-waits}

module _ (R : Rules) where
  pub kind-is : (k t : ℕ) → is_kind R k t ≡ true → R.kind t ≡ k
  unfolding is_kind
  kind-is k t e = eqb-true (R.kind t) k e

  pub is-kind : (k t : ℕ) → R.kind t ≡ k → is_kind R k t ≡ true
  unfolding is_kind
  is-kind k t e = eq-eqb (R.kind t) k e

  pub not-kind : (k t : ℕ) → R.kind t ≢ k → is_kind R k t ≡ false
  unfolding is_kind
  not-kind k t e = ne_eqb (R.kind t) k e

  pub is-not-kind : (k t : ℕ) → is_kind R k t ≡ false → R.kind t ≢ k
  unfolding is_kind
  is-not-kind k t e = eqb-false (R.kind t) k e

  module _ (m : Move) (f : Stages) (t : ℕ) where
    pub waits-is : waits R m f t ≡ true → (R.kind t ≡ kind_of m) × (f t ≡ 0)
    unfolding waits
    waits-is e = let s = and-true (is_kind R (kind_of m) t) (eqb (f t) 0) e in (kind-is (kind_of m) t s.0, eqb-true (f t) 0 s.1)

    pub is-waiting : R.kind t ≡ kind_of m → f t ≡ 0 → waits R m f t ≡ true
    unfolding waits
    is-waiting e z = rw (is-kind (kind_of m) t e, z)

    pub moved-is : moved R m f t ≡ true → f t ≢ 0
    unfolding moved
    moved-is e = eqb-false (f t) 0 (not-true (eqb (f t) 0) (and-true (is_kind R (kind_of m) t) (not (eqb (f t) 0)) e).1)

    pub is-moved : R.kind t ≡ kind_of m → f t ≢ 0 → moved R m f t ≡ true
    unfolding moved
    is-moved e z = rw (is-kind (kind_of m) t e, ne_eqb (f t) 0 z)

  -- ---- what a stage given changes

  given-at : (f : Stages) (t i u : ℕ) → u ≡ t → given true t i f u ≡ i
  unfolding given
  given-at f t i u e = rw (eq-eqb u t e)

  given-waits : (m : Move) (f : Stages) (t i u : ℕ) → u ≢ t → waits R m (given true t i f) u ≡ true → waits R m f u ≡ true
  unfolding waits given
  given-waits m f t i u h w = rw (ne_eqb u t h) at w

  -- ---- a turn

  module _ (m : Move) (i : ℕ) (f : Stages) (t : ℕ) where
    pub turn-goes : waits R m f t ≡ true → goes R m i f t ≡ true → turn R m i f t ≡ given true t i f
    unfolding turn
    turn-goes w g = rw (w, g)

    pub turn-stays : (waits R m f t && goes R m i f t) ≡ false → turn R m i f t ≡ f
    unfolding turn given
    turn-stays e = rw e

    -- either the tunnel waits and goes, or nothing changes
    pub turn-cases : ((waits R m f t ≡ true) × (goes R m i f t ≡ true) × (turn R m i f t ≡ given true t i f)) ⊎ (((waits R m f t && goes R m i f t) ≡ false) × (turn R m i f t ≡ f))
    turn-cases =
        ⊎_elim
        (λ e. let s = and-true (waits R m f t) (goes R m i f t) e in inl (s.0, s.1, turn-goes s.0 s.1))
        (λ e. inr (e, turn-stays e))
        (bool_cases (waits R m f t && goes R m i f t))

    -- only a tunnel that waits can change: it then has the stage
    pub turn_at : (u : ℕ) → (turn R m i f t u ≡ f u) ⊎ ((u ≡ t) × (waits R m f u ≡ true) × (turn R m i f t u ≡ i))
    unfolding given
    turn_at u =
        ⊎_elim
        (λ c.
        ⊎_elim
        (λ (e : eqb u t ≡ true).
        let k : u ≡ t = eqb-true u t e in inr (k, rw k c.0, ap (λ (g : Stages). g u) c.2 ∙ rw e))
        (λ (e : eqb u t ≡ false). inl (ap (λ (g : Stages). g u) c.2 ∙ rw e))
        (bool_cases (eqb u t)))
        (λ c. inl (ap (λ (g : Stages). g u) c.1))
        turn-cases

  -- ---- a pass

  module _ (m : Move) (i : ℕ) (f : Stages) where
    pub pass-at : (n u : ℕ) → (pass R m i f n u ≡ f u) ⊎ ((R.kind u ≡ kind_of m) × (f u ≡ 0) × (pass R m i f n u ≡ i))
    unfolding pass
    pass-at zero u = inl refl
    pass-at (suc n) u =
        ⊎_elim
        (λ e. ⊎_elim (λ c. inl (e ∙ c)) (λ c. inr (c.0, c.1, e ∙ c.2)) (pass-at n u))
        (λ e.
        let w = waits-is m (pass R m i f n) u e.1 in
        ⊎_elim (λ c. inr (w.0, sym c ∙ w.1, e.2)) (λ c. inr (c.0, c.1, e.2)) (pass-at n u))
        (turn_at m i (pass R m i f n) n u)

    -- tunnels of another kind are left
    pub pass-other : (n u : ℕ) → R.kind u ≢ kind_of m → pass R m i f n u ≡ f u
    pass-other n u h = ⊎_elim (λ e. e) (λ e. absurd (h e.0)) (pass-at n u)

    -- a tunnel that has a stage keeps it
    pub pass-keeps : (n u : ℕ) → f u ≢ 0 → pass R m i f n u ≡ f u
    pass-keeps n u h = ⊎_elim (λ e. e) (λ e. absurd (h e.1)) (pass-at n u)

  -- a tunnel that still waits after its turn did not go then
  pub pass-stayed : (m : Move) (i : ℕ) (f : Stages) (n : ℕ) → 1 ≤ i → (u : ℕ) → u < n → waits R m (pass R m i f n) u ≡ true
      → (waits R m (pass R m i f u) u ≡ true) × (goes R m i (pass R m i f u) u ≡ false)
  unfolding pass
  pass-stayed m i f zero p u h w = absurd (omega (arith, h))
  pass-stayed m i f (suc n) p u h w =
      let g : Stages = pass R m i f n in
      ⊎_elim
      (λ c.
      let w' : waits R m (given true n i g) u ≡ true = rw c.2 at w in
      ⊎_elim
      (λ (z : u ≡ n). absurd (omega (arith, p, (waits-is m (given true n i g) u w').1, given-at g n i u z)))
      (λ (z : u < n). pass-stayed m i f n p u z (given-waits m g n i u (λ y. omega (arith, y, z)) w'))
      (eq-or-lt_of_le (le_of_suc-le-suc h)))
      (λ c.
      let w' : waits R m g u ≡ true = rw c.1 at w in
      ⊎_elim
      (λ (z : u ≡ n). let here : waits R m g n ≡ true = rw z at w' in rw z (here, rw here at c.0))
      (λ (z : u < n). pass-stayed m i f n p u z w')
      (eq-or-lt_of_le (le_of_suc-le-suc h)))
      (turn-cases m i g n)

  -- the later in a pass, the fewer wait
  pub pass-fewer : (m : Move) (i : ℕ) (f : Stages) (s u n : ℕ) → u ≤ n → n ≤ R.tunnels → count R (waits R m (pass R m (suc i) f n)) s ≤ count R (waits R m (pass R m (suc i) f u)) s
  unfolding pass
  pass-fewer m i f s u zero h l = let e : u ≡ 0 = omega (arith, h) in rw e (omega arith)
  pass-fewer m i f s u (suc n) h l =
      ⊎_elim
      (λ (e : u ≡ suc n). rw e (omega arith))
      (λ k.
      let rest = pass-fewer m i f s u n (le_of_suc-le-suc k) (omega (arith, l)) in
      let g : Stages = pass R m (suc i) f n in
      ⊎_elim (λ c. rw c.2 (omega (arith, rest, count-waits R s m g n i (omega (arith, l)) c.0))) (λ c. rw c.1 rest) (turn-cases m (suc i) g n))
      (eq-or-lt_of_le h)

  -- those of the other move, counted
  module _ (m o : Move) (i : ℕ) (f : Stages) (n s : ℕ) (d : kind_of o ≢ kind_of m) where
    same : (u : ℕ) → is_kind R (kind_of o) u ≡ true → pass R m i f n u ≡ f u
    same u e = pass-other m i f n u (λ k. d (sym (kind-is (kind_of o) u e) ∙ k))

    and_same : (a : Bool) {b c : Bool} → (a ≡ true → b ≡ c) → (a && b) ≡ (a && c)
    and_same true h = h refl
    and_same false h = refl

    pub other-moved : count R (moved R o (pass R m i f n)) s ≡ count R (moved R o f) s
    unfolding moved
    other-moved = count-cong R s _ _ (λ u h. and_same (is_kind R (kind_of o) u) (λ e. ap (λ (x : ℕ). not (eqb x 0)) (same u e)))

    pub other-waits : count R (waits R o (pass R m i f n)) s ≡ count R (waits R o f) s
    other-waits = omega (arith, other-moved, count-kind R s o f, count-kind R s o (pass R m i f n))

  -- ---- the stages

  pub stage_at : (i : ℕ) (f : Stages) (u : ℕ) → (stage R i f u ≡ f u) ⊎ ((f u ≡ 0) × (stage R i f u ≡ i))
  unfolding stage
  stage_at i f u =
      let n = R.tunnels in
      ⊎_elim
      (λ a. ⊎_elim (λ b. inl (b ∙ a)) (λ b. inr (sym a ∙ b.1, b.2)) (pass-at removes i (pass R adds i f n) n u))
      (λ a. inr (a.1, ⊎_elim (λ b. b ∙ a.2) (λ b. b.2) (pass-at removes i (pass R adds i f n) n u)))
      (pass-at adds i f n u)

  pub stages-le : (i u : ℕ) → stages R i u ≤ i
  unfolding stages
  stages-le zero u = omega arith
  stages-le (suc i) u = ⊎_elim (λ e. omega (arith, e, stages-le i u)) (λ e. omega (arith, e.1)) (stage_at (suc i) (stages R i) u)

  pub stages-kept : (i u : ℕ) → R.kind u ≡ keep → stages R i u ≡ 0
  unfolding stages stage
  stages-kept zero u e = refl
  stages-kept (suc i) u e =
      pass-other removes (suc i) _ R.tunnels u (λ k. omega (arith, e, k))
      ∙ pass-other adds (suc i) _ R.tunnels u (λ k. omega (arith, e, k))
      ∙ stages-kept i u e

  -- what the stages were after stage i, by what they are later: those up to i are there, and the others were not given
  pub stages-earlier : (i j u : ℕ) → i ≤ j → stages R i u ≡ cond (leb (stages R j u) i) (stages R j u) 0
  unfolding stages
  stages-earlier i zero u h = let e : i ≡ 0 = omega (arith, h) in rw e refl
  stages-earlier i (suc j) u h =
      ⊎_elim
      (λ (e : i ≡ suc j). rw e (sym (ap (λ (b : Bool). cond b (stages R (suc j) u) 0) (le-leb (stages R (suc j) u) (suc j) (stages-le (suc j) u)))))
      (λ (k : i < suc j).
      let before = stages-earlier i j u (le_of_suc-le-suc k) in
      ⊎_elim
      (λ e. before ∙ ap (λ (x : ℕ). cond (leb x i) x 0) (sym e))
      (λ e.
      let late : leb (stages R (suc j) u) i ≡ false = lt-leb (stages R (suc j) u) i (omega (arith, e.1, k)) in
      let none : stages R i u ≡ 0 = before ∙ ap (λ (x : ℕ). cond (leb x i) x 0) e.0 ∙ ap (λ (b : Bool). cond b 0 0) (le-leb 0 i (omega arith)) in
      none ∙ sym (ap (λ (b : Bool). cond b (stages R (suc j) u) 0) late))
      (stage_at (suc j) (stages R j) u))
      (eq-or-lt_of_le h)

  pub given-early : (i j u : ℕ) → i ≤ j → stages R j u ≤ i → stages R i u ≡ stages R j u
  given-early i j u h k = stages-earlier i j u h ∙ ap (λ (b : Bool). cond b (stages R j u) 0) (le-leb (stages R j u) i k)

  pub given-late : (i j u : ℕ) → i ≤ j → i < stages R j u → stages R i u ≡ 0
  given-late i j u h k = stages-earlier i j u h ∙ ap (λ (b : Bool). cond b (stages R j u) 0) (lt-leb (stages R j u) i k)
