-- What the definitions come to at a lag of 1.
use Prim.Native.Nat.{ℕ, zero, suc, ◌+◌, ◌-◌, ◌*◌, ◌<◌, min, max}
use mathlib.Core.Path.{◌≡◌, refl, sym, ap, ap₂, ◌∙◌}
use mathlib.Core.Bool.{Bool, true, false, cond, ◌&&◌}
use mathlib.Core.Logic.{⊎_elim}
use native.Mathlib.Omega.{arith}
use native.Mathlib.Nat.{add-zero}
use native.Mathlib.Numerals.{add-one}
use borrow.Author.Tests.{ltb-true, ltb-false, lt-ltb, le-ltb}
use lib.Dec.{ltb}
use Rattle.model.specs.Largest.{largest, peak_at}
use Rattle.model.specs.Net.{Net, Plan, row}
use Rattle.model.specs.Scan.{Bound, Overload, scan}
use Rattle.model.specs.Rule.{crosses, across, flow_sum, by_flow, mover_of, on_link, load, exceeds, step_count, reach, worst, row_in, Choice, shown, mark, movers_of, at_largest, marked, worst_over, first_overload}
use Rattle.model.specs.ThreeSums.{old_load, new_load, peak_load, step_load, end_load}
use Rattle.model.specs.Today.{larger_of_two, Today}
use Rattle.model.proofs.Scans.{scan-cong}
use Rattle.model.proofs.Searches.{bool_cases, and-true}
use Rattle.model.proofs.Largests.{peak-later}
use Rattle.model.proofs.Movers.{mover-tunnel, on-tunnel, mover-flow, on-flow, mover-picked, load-cong}
use Rattle.model.proofs.Gathered.{larger-by-tunnel, larger-by-flow, rises-across}
use Rattle.model.proofs.Bounded.{bound-today}

pub steps-today : (N : Net) (P : Plan) → 0 < P.steps → step_count 1 N P ≡ P.steps
unfolding step_count
steps-today N P h = omega arith

pub overload-today : (N : Net) (P : Plan) → 0 < P.steps → first_overload 1 N P ≡ scan P.steps N.links (worst_over 1 N P)
unfolding first_overload
overload-today N P h = ap (λ (n : ℕ). scan n N.links (worst_over 1 N P)) (steps-today N P h)

pub reach-today : (P : Plan) (i : ℕ) → i < P.steps → reach 1 P i ≡ 1
unfolding reach
reach-today P i h = omega arith

pub worst-today : (N : Net) (P : Plan) (i l m : ℕ) → i < P.steps → worst 1 N P i l m ≡ max (on_link N l (row N P i) m) (on_link N l (row N P (suc i)) m)
unfolding worst largest
worst-today N P i l m h =
    let at : ℕ → ℕ = λ a. on_link N l (row N P a) m in
    ap (λ (n : ℕ). largest n (λ k. at (i + k))) (reach-today P i h) ∙ ap₂ (λ (a b : ℕ). max (at a) (at b)) (add-zero i) (add-one i)

pub rule-today : (N : Net) (P : Plan) → 0 < P.steps → first_overload 1 N P ≡ scan P.steps N.links (λ i l b. exceeds N b P.parts l (load N b (larger_of_two N P i l)))
unfolding worst_over
rule-today N P h =
    overload-today N P h
    ∙ scan-cong P.steps N.links _ _ (λ i l hi hl b. ap (exceeds N b P.parts l) (load-cong N b (λ m _. worst-today N P i l m hi)))

row-today : (P : Plan) (i n : ℕ) → i < P.steps → row_in 1 P i n ≡ cond (ltb 0 n) (suc i) i
unfolding row_in
row-today P i zero h = omega (arith, reach-today P i h)
row-today P i (suc n) h = rw (lt-ltb 0 (suc n) (omega arith)) (omega (arith, reach-today P i h))

pub shown-today : (N : Net) (P : Plan) (i l : ℕ) (c : Choice 1 N P i) (m : ℕ) → i < P.steps → shown 1 N P i l c m ≡ on_link N l (row N P (cond (ltb 0 (c m)) (suc i) i)) m
unfolding shown
shown-today N P i l c m h = ap (λ (a : ℕ). on_link N l (row N P a) m) (row-today P i (c m) h)

-- "its amount rises": the larger of two exceeds the first exactly if the second does
rises : (u v : ℕ) → ltb u (max u v) ≡ ltb u v
rises u v =
    ⊎_elim
    (λ e. lt-ltb u (max u v) (omega (arith, ltb-true u v e)) ∙ sym e)
    (λ e. le-ltb u (max u v) (omega (arith, ltb-false u v e)) ∙ sym e)
    (bool_cases (ltb u v))

pub mark-today : (N : Net) (P : Plan) (o : Overload) (t : ℕ) → o.from < P.steps
    → mark 1 N P o t
    ≡ (crosses N o.link t && ltb (on_link N o.link (row N P o.from) (mover_of N t)) (on_link N o.link (row N P (suc o.from)) (mover_of N t)))
unfolding mark
mark-today N P o t h = rw (worst-today N P o.from o.link (mover_of N t) h) (rw rises refl)

-- the even plan's loads
pub step-load-today : (N : Net) (b : Bound) (q i l : ℕ) → i < q → step_load 1 N b q i l ≡ (q - suc i) * old_load N b l + i * new_load N b l + peak_load N b l
unfolding step_load
step-load-today N b q i l h =
    let one : min 1 q ≡ 1 = omega arith in
    let next : q - (i + 1) ≡ q - suc i = omega arith in
    rw (one, next) (omega arith)

pub end-load-today : (N : Net) (b : Bound) (q l : ℕ) → 0 < q → end_load 1 N b q l ≡ (q - 1) * max (old_load N b l) (new_load N b l) + peak_load N b l
unfolding end_load
end-load-today N b q l h = let one : min 1 q ≡ 1 = omega arith in rw one (omega arith)

-- ---- and tunnel by tunnel, or flow by flow

module _ (N : Net) (e : by_flow N ≡ false) (P : Plan) where
  pub worst-tunnel : (i l t : ℕ) → i < P.steps → worst 1 N P i l t ≡ across N l (λ u. max (row N P i u) (row N P (suc i) u)) t
  worst-tunnel i l t h = worst-today N P i l t h ∙ larger-by-tunnel N e l (row N P i) (row N P (suc i)) t

  pub mark-tunnel : (o : Overload) (t : ℕ) → o.from < P.steps → mark 1 N P o t ≡ (crosses N o.link t && ltb (row N P o.from t) (row N P (suc o.from) t))
  unfolding across
  mark-tunnel o t h =
      mark-today N P o t h ∙ simp (mover-tunnel N e, on-tunnel N e) (rises-across (crosses N o.link t) (row N P o.from t) (row N P (suc o.from) t))

module _ (N : Net) (e : by_flow N ≡ true) (P : Plan) where
  pub worst-flow : (i l f : ℕ) → i < P.steps → worst 1 N P i l f ≡ max (flow_sum N (across N l (row N P i)) f) (flow_sum N (across N l (row N P (suc i))) f)
  worst-flow i l f h = worst-today N P i l f h ∙ larger-by-flow N e l (row N P i) (row N P (suc i)) f

  pub mark-flow : (o : Overload) (t : ℕ) → o.from < P.steps
      → mark 1 N P o t
      ≡ (crosses N o.link t && ltb (flow_sum N (across N o.link (row N P o.from)) (N.flow t)) (flow_sum N (across N o.link (row N P (suc o.from))) (N.flow t)))
  mark-flow o t h = mark-today N P o t h ∙ simp (mover-flow N e, on-flow N e)

-- ---- a marked mover is at its largest in the later row

module _ (N : Net) (P : Plan) (o : Overload) (m : ℕ) where
  later : movers_of N (mark 1 N P o) m ≡ true → 0 < peak_at (reach 1 P o.from) (λ k. on_link N o.link (row N P (o.from + k)) m)
  unfolding mark worst
  later e =
      let at : ℕ → ℕ → ℕ = λ a k. on_link N o.link (row N P a) k in
      let most : ℕ → ℕ = λ k. largest (reach 1 P o.from) (λ j. at (o.from + j) k) in
      let s = mover-picked N (mark 1 N P o) m e in
      let rise : ltb (at o.from m) (most m) ≡ true =
      ap (λ (k : ℕ). ltb (at o.from k) (most k)) (sym s.3) ∙ (and-true (crosses N o.link s.0) (ltb (at o.from (mover_of N s.0)) (most (mover_of N s.0))) s.2).1 in
      peak-later (reach 1 P o.from) (λ k. at (o.from + k) m) (omega (arith, ltb-true (at o.from m) (most m) rise, ap (λ (a : ℕ). at a m) (add-zero o.from)))

  pub marked-today : o.from < P.steps
      → shown 1 N P o.from o.link (marked 1 N P o) m ≡ on_link N o.link (row N P (cond (movers_of N (mark 1 N P o) m) (suc o.from) o.from)) m
  unfolding marked at_largest
  marked-today h =
      let peak : ℕ = peak_at (reach 1 P o.from) (λ k. on_link N o.link (row N P (o.from + k)) m) in
      shown-today N P o.from o.link (marked 1 N P o) m h
      ∙ ap (λ (b : Bool). on_link N o.link (row N P (cond b (suc o.from) o.from)) m)
      (⊎_elim
      (λ e. ap (λ (b : Bool). ltb 0 (cond b peak 0)) e ∙ lt-ltb 0 peak (later e) ∙ sym e)
      (λ e. ap (λ (b : Bool). ltb 0 (cond b peak 0)) e ∙ sym e)
      (bool_cases (movers_of N (mark 1 N P o) m)))

pub today : Today
today = record { overload = rule-today; steps = steps-today; worst = worst-today; shown = shown-today; mark = mark-today; marked = marked-today; bound = bound-today }
