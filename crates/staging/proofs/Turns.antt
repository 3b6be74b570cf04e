-- Laws of the turns that the code takes: its test is that of the definition, and the counts go with the stages.
use Prim.Native.Nat.{ℕ, suc, ◌+◌, ◌-◌, ◌*◌, ◌^◌, ◌≤◌, ◌<◌}
use mathlib.Core.Path.{◌≡◌, refl, sym, ap, fun_ext, subst, ◌∙◌}
use mathlib.Core.Logic.{◌≢◌, ⊎_elim}
use mathlib.Core.Bool.{Bool, beq, true, false, cond, not, ◌&&◌, ◌||◌, true≢false}
use mathlib.Core.List.{List}
use native.Mathlib.Numerals.{add-one}
use native.Mathlib.Omega.{arith}
use lib.Dec.{leb, eqb}
use lib.ListN.{set, length-set}
use lib.Seq.{get_or-set_same, get_or-set_other}
use borrow.Author.Tests.{le-leb, leb-true, ne_eqb, eqb-true, eqb-false}
use Rattle.model.specs.Limits.{least_share, most_tunnels, most_switches, most_steps}
use Rattle.model.specs.Sets.{in_set}
use Rattle.model.proofs.Bounded.{ceil-most}
use Rattle.model.proofs.Sets.{set-within}
use Rattle.model.proofs.Searches.{bool_cases}
use Rattle.lists.specs.Lists.{at, table_sizes}
use Rattle.rules.specs.Rules.{Rules, add, remove, is_kind, rule, count, last_stage, spare}
use Rattle.rules.specs.Stage.{Move, adds, removes, kind_of, Stages, moved, waits, within, goes, given, turn, pass}
use Rattle.rules.specs.Lists.{rules_of}
use Rattle.switches.specs.Inner.{Table, Counted, Shifted, Shiftable, Spares, fits_all}
use Rattle.staging.specs.Inner.{move_of, counts, times_of, goes_by, Ready, Reached}
use Rattle.rules.proofs.Counts.{and_none, every-at, every-all, within-at, within_all, count-some, count-moved, count-waits}
use Rattle.rules.proofs.Passes.{is-waiting, not-kind, turn-goes, turn-stays}
use Rattle.switches.proofs.Tallies.{cond-zero, counted-table}

pub last-most : (R : Rules) → least_share ≤ R.slack → last_stage R < most_steps
unfolding last_stage
last-most R h = omega (arith, ceil-most R.slack h)

-- ---- the test

same_bool : (a b : Bool) → (a ≡ true → b ≡ true) → (b ≡ true → a ≡ true) → a ≡ b
same_bool true b f g = sym (f refl)
same_bool false b f g = ⊎_elim (λ (e : b ≡ true). absurd (true≢false (sym (g e)))) sym (bool_cases b)

module _ (R : Rules) (t unit more times : ℕ) (c x : List ℕ) (n : ℕ → ℕ) (low : R.switches ≤ most_switches) (v : R.via t < 2 ^ R.switches) (u : unit ≡ 1000 * last_stage R)
    (each_c : (s : ℕ) → s < R.switches → at c s + more ≡ n s) (each_x : (s : ℕ) → s < R.switches → at x s ≡ spare R s) where
  same_test : (s : ℕ) → s < R.switches → (unit * (at c s + more) ≡ 1000 * last_stage R * n s) × (times * at x s ≡ times * spare R s)
  same_test s h = (rw (u, each_c s h), rw (each_x s h))

  pub fits-within : fits_all (R.via t) unit more times c x ≡ within R times n t
  unfolding fits_all
  fits-within =
      same_bool _ _
      (λ e.
      within_all R times n t
      (λ s h k.
      let p : (not (in_set (R.via t) s) || leb (unit * (at c s + more)) (times * at x s)) ≡ true = every-at most_switches _ e s (omega (arith, h, low)) in
      let q : leb (unit * (at c s + more)) (times * at x s) ≡ true = rw k at p in
      omega (arith, same_test s h, leb-true (unit * (at c s + more)) (times * at x s) q)))
      (λ e.
      every-all most_switches _
      (λ s h.
      ⊎_elim
      (λ (k : in_set (R.via t) s ≡ true).
      let l : s < R.switches = set-within (R.via t) R.switches s v (eqb-true _ 1 k) in
      rw k (le-leb (unit * (at c s + more)) (times * at x s) (omega (arith, same_test s l, within-at R times n t e s l k))))
      (λ (k : in_set (R.via t) s ≡ false). rw k)
      (bool_cases (in_set (R.via t) s))))

-- ---- a turn

module _ (R : Rules) (f : Stages) (t i kind times unit : ℕ) (c x : List ℕ) (low : R.switches ≤ most_switches) (v : R.via t < 2 ^ R.switches)
    (u : unit ≡ 1000 * last_stage R) (X : Spares R x) where
  -- the code's test is that of the move
  pub goes-told : (m : Move) → kind ≡ kind_of m → times ≡ times_of R m i → Counted R R.tunnels (counts R m f) c
      → goes_by kind (fits_all (R.via t) unit (remove - kind) times c x) ≡ goes R m i f t
  unfolding goes_by goes counts times_of count
  goes-told adds e b C =
      rw (e, b)
      (beq-true _
      ∙ fits-within R t unit 1 i c x (λ s. count R (moved R adds f) s + 1) low v u (λ s l. ap (λ (k : ℕ). k + 1) (C.each s (omega (arith, l, low)))) X.each)
    where
      beq-true : (b : Bool) → beq b true ≡ b
      beq-true true = refl
      beq-true false = refl
  goes-told removes e b C =
      rw (e, b)
      (beq-false (fits_all (R.via t) unit 0 (last_stage R - i) c x)
      ∙ ap not (fits-within R t unit 0 (last_stage R - i) c x (count R (waits R removes f)) low v u (λ s l. omega (arith, C.each s (omega (arith, l, low)))) X.each))
    where
      beq-false : (b : Bool) → beq b false ≡ not b
      beq-false true = refl
      beq-false false = refl

-- where it goes
module _ (R : Rules) (f : Stages) (t i kind : ℕ) (c : List ℕ) (h : t < R.tunnels) where
  -- the counts can be shifted
  pub goes-shift : (m : Move) → kind ≡ kind_of m → waits R m f t ≡ true → Counted R R.tunnels (counts R m f) c → Table most_tunnels c
      → Shiftable (R.via t) (remove - kind) (kind - add) c
  unfolding counts count
  goes-shift adds e w C T = rw e (record { table = T; small = omega arith; enough = λ s l k. omega arith })
  goes-shift removes e w C T =
      rw e (record { table = T; small = omega arith; enough = λ s l k. omega (arith, C.each s l, count-some R s (waits R removes f) t h w k) })

  -- and are then those of the stages with this one
  pub goes-counted : (m : Move) (c' : List ℕ) → kind ≡ kind_of m → waits R m f t ≡ true → Counted R R.tunnels (counts R m f) c → Shifted (R.via t) (remove - kind) (kind - add) c c'
      → Counted R R.tunnels (counts R m (given true t (suc i) f)) c'
  unfolding counts count rule
  goes-counted adds c' e w C S = record {
    size = S.size ∙ C.size;
    each =
        λ s l.
        let moves : at c' s + cond (in_set (R.via t) s) 0 0 ≡ at c s + cond (in_set (R.via t) s) 1 0 = rw e at (S.each s l) in
        omega (arith, moves, cond-zero (in_set (R.via t) s), C.each s l, count-moved R s adds f t i h w);
  }
  goes-counted removes c' e w C S = record {
    size = S.size ∙ C.size;
    each =
        λ s l.
        let moves : at c' s + cond (in_set (R.via t) s) 1 0 ≡ at c s + cond (in_set (R.via t) s) 0 0 = rw e at (S.each s l) in
        omega (arith, moves, cond-zero (in_set (R.via t) s), C.each s l, count-waits R s removes f t i h w);
  }

-- ---- a turn, in lists

module _ (l x : List ℕ) (kind stage times unit : ℕ) (c o : List ℕ) (r : Ready l x kind stage times unit c o) where
  abbrev R : Rules
  R = rules_of l

  abbrev m : Move
  m = move_of kind

  abbrev f : Stages
  f = at o

  pub kinds : (add ≤ kind) × (kind ≤ remove)
  kinds = go m r.pass.moves
    where
      go : (m : Move) → kind ≡ kind_of m → (add ≤ kind) × (kind ≤ remove)
      go adds e = (omega (arith, e), omega (arith, e))
      go removes e = (omega (arith, e), omega (arith, e))

  -- the products of the test fit
  pub small : (times ≤ most_steps) × (unit ≤ 1000 * most_steps)
  unfolding rules_of times_of
  small = (go m r.pass.bound, omega (arith, r.pass.scale, last))
    where
      last : last_stage R < most_steps
      last = last-most R r.good.slack.0

      go : (m : Move) → times ≡ times_of R m stage → times ≤ most_steps
      go adds e = omega (arith, e, r.pass.inside, last)
      go removes e = omega (arith, e, last)

  pub table : Table most_tunnels c
  unfolding rules_of
  table = counted-table R R.tunnels (counts R m f) c r.counted r.good.tunnels

  -- the turn of tunnel t, whose switches are v
  module _ (t : ℕ) (h : t < (table_sizes l).tunnels) where
    stays : (waits R m f t && goes R m stage f t) ≡ false → Reached l m (turn R m stage f t) c o
    stays e = record { counted = r.counted; size = r.size; stages = sym (turn-stays R m stage f t e) }

    pub turn-other : R.kind t ≢ kind → Reached l m (turn R m stage f t) c o
    unfolding waits
    turn-other n = stays (rw (not-kind R (kind_of m) t (λ e. n (e ∙ sym r.pass.moves))))

    pub turn-has : at o t ≢ 0 → Reached l m (turn R m stage f t) c o
    unfolding waits
    turn-has n = stays (rw (ne_eqb (at o t) 0 n) (none (is_kind R (kind_of m) t)))
      where
        none : (b : Bool) → (b && false && goes R m stage f t) ≡ false
        none true = refl
        none false = refl

    module _ (v more less : ℕ) (here : v ≡ R.via t) (more-is : more ≡ remove - kind) (less-is : less ≡ kind - add) where
      told : (b : Bool) → b ≡ fits_all v unit more times c x → goes_by kind b ≡ goes R m stage f t
      unfolding rules_of
      told b e =
          ap (goes_by kind) (rw (here, more-is) at e)
          ∙ (goes-told R f t stage kind times unit c x r.good.switches.1 (r.good.via t h).1 r.pass.scale r.spares m r.pass.moves r.pass.bound r.counted)

      pub turn-not : (b : Bool) → b ≡ fits_all v unit more times c x → goes_by kind b ≡ false → Reached l m (turn R m stage f t) c o
      turn-not b q e = stays (rw (sym (told b q) ∙ e) (and_none (waits R m f t)))

      module _ (k : R.kind t ≡ kind) (z : at o t ≡ 0) where
        waiting : waits R m f t ≡ true
        waiting = is-waiting R m f t (k ∙ r.pass.moves) z

        pub turn-shift : Shiftable v more less c
        unfolding rules_of
        turn-shift = rw (here, more-is, less-is) (goes-shift R f t stage kind c h m r.pass.moves waiting r.counted table)

        stored : at (set o t stage) ≡ given true t stage f
        unfolding given
        stored =
            fun_ext
            (λ u.
            ⊎_elim
            (λ (e : eqb u t ≡ true). let q : u ≡ t = eqb-true u t e in rw e (rw q (get_or-set_same o t stage 0 (omega (arith, h, r.size, r.good.tunnels)))))
            (λ (e : eqb u t ≡ false). rw e (get_or-set_other o t u stage 0 (eqb-false u t e)))
            (bool_cases (eqb u t)))

        pub turn_on : (c' : List ℕ) (b : Bool) → b ≡ fits_all v unit more times c x → goes_by kind b ≡ true → Shifted v more less c c'
            → Reached l m (turn R m stage f t) c' (set o t stage)
        unfolding rules_of
        turn_on c' b q e S =
            let j : ℕ = stage - 1 in
            let back : suc j ≡ stage = omega (arith, r.pass.inside.0) in
            record {
              counted = rw stored (rw back at (goes-counted R f t j kind c h m c' r.pass.moves waiting r.counted (rw (here, more-is, less-is) at S)));
              size = length-set o t stage ∙ r.size;
              stages = stored ∙ sym (turn-goes R m stage f t waiting (sym (told b q) ∙ e));
            }

-- ---- the turns of a pass

module _ (l : List ℕ) (kind : ℕ) where
  pub reached-start : (x : List ℕ) (stage times unit : ℕ) (c o : List ℕ) → Ready l x kind stage times unit c o → Reached l (move_of kind) (pass (rules_of l) (move_of kind) stage (at o) 0) c o
  unfolding pass
  reached-start x stage times unit c o r = record { counted = r.counted; size = r.size; stages = refl }

  pub ready_on : (x : List ℕ) (stage times unit : ℕ) (c o c' o' : List ℕ) (g : Stages) → Ready l x kind stage times unit c o → Reached l (move_of kind) g c' o' → Ready l x kind stage times unit c' o'
  ready_on x stage times unit c o c' o' g r a = record { good = r.good; spares = r.spares; pass = r.pass; counted = a.counted; size = a.size }

  pub reached-on : (i t : ℕ) (f : Stages) (o c' o' : List ℕ) → at o ≡ pass (rules_of l) (move_of kind) i f t → Reached l (move_of kind) (turn (rules_of l) (move_of kind) i (at o) t) c' o'
      → Reached l (move_of kind) (pass (rules_of l) (move_of kind) i f (t + 1)) c' o'
  unfolding pass
  reached-on i t f o c' o' e a = record {
    counted = a.counted;
    size = a.size;
    stages = a.stages ∙ rw add-one (ap (λ (g : Stages). turn (rules_of l) (move_of kind) i g t) e);
  }

  pub reached-to : (i t n : ℕ) (f : Stages) (c o : List ℕ) → Reached l (move_of kind) (pass (rules_of l) (move_of kind) i f t) c o → t ≡ n → Reached l (move_of kind) (pass (rules_of l) (move_of kind) i f n) c o
  reached-to i t n f c o a e = subst (λ (k : ℕ). Reached l (move_of kind) (pass (rules_of l) (move_of kind) i f k) c o) e a
