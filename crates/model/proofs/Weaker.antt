-- Rules that ask less: the loads that they weigh are no larger.
use Prim.Native.Nat.{ℕ, ◌+◌, ◌-◌, ◌≤◌, ◌<◌, min}
use mathlib.Core.Path.{◌≡◌, refl, sym, ap, ap₂, ◌∙◌, fun_ext}
use mathlib.Core.Bool.{Bool, true, false, not, ◌&&◌}
use mathlib.Core.Option.{some}
use native.Mathlib.Omega.{arith}
use native.Mathlib.Nat.{le_of_eq, le_trans}
use lib.Dec.{leb}
use Rattle.model.specs.Sum.{sum_over}
use Rattle.model.specs.Largest.{largest}
use Rattle.model.specs.Net.{Net, Plan, row, with_unit}
use Rattle.model.specs.Scan.{Bound}
use Rattle.model.specs.Search.{only_if, is_none}
use Rattle.model.specs.Even.{even_row, even, fewest, leaves_scratch, keeps_scratch}
use Rattle.model.specs.Rule.{crosses, across, flow_sum, by_flow, movers, mover_of, flow_of, on_link, counts, load, exceeds, missed_by, missed_rate, missed_row, missed_in, between, step_count, reach, worst, worst_over, accepted}
use Rattle.model.specs.Weaker.{InFlows, Weaker, AnyUnit}
use Rattle.model.proofs.Sums.{sum_mono, sum-groups}
use Rattle.model.proofs.Searches.{first_cong}
use Rattle.model.proofs.Largests.{largest-ge, largest-le}
use Rattle.model.proofs.Movers.{flow-mover, load-mono, load-tunnels}
use Rattle.model.proofs.Windows.{window-end}
use Rattle.model.proofs.Bounded.{fewest-some, fewest-least}
use Rattle.model.proofs.Choices.{kept-mono, none_kept, kept-none}
use Rattle.model.proofs.Rows.{accepted-both}

-- a plan passes by a second rule, where each of its steps weighs no more than some step of the first, on the same links and by the same bounds
module _ (w v : ℕ) (N M : Net) (P : Plan) (rows : missed_row N P ≡ missed_row M P) (links : M.links ≡ N.links) where
  passes : ((i l : ℕ) → i < step_count v M P → (b : Bound) → (j : ℕ) × (j < step_count w N P) × (worst_over w N P j l b ≡ false → worst_over v M P i l b ≡ false))
      → accepted w N P ≡ true → accepted v M P ≡ true
  passes h e =
      let a = (accepted-both w N P).0 e in
      (accepted-both v M P).1
      (sym rows ∙ a.0, kept-none v M P (λ i l hi hl b. let s = h i l hi b in s.2 (none_kept w N P a.1 s.0 l s.1 (omega (arith, links)) b)))

-- ---- flow by flow

module _ (N : Net) (P : Plan) (i n l : ℕ) (valid : InFlows N) where
  abbrev at : ℕ → ℕ → ℕ
  at k = across N l (row N P (i + k))

  abbrev most : ℕ → ℕ
  most t = largest n (λ k. at k t)

  -- the largest of a flow's sums is at most the sum of the largest amounts, whatever test of flows picks the traffic
  by-flow : (c : ℕ → Bool) → sum_over N.flows c (λ f. largest n (λ k. flow_sum N (at k) f)) ≤ sum_over N.tunnels (λ t. c (N.flow t)) most
  unfolding flow_sum
  by-flow c =
      le_trans
      (sum_mono N.flows c (λ f _ _. largest-le n _ _ (λ k h. sum_mono N.tunnels _ (λ t _ _. largest-ge n (λ j. at j t) k h))))
      (le_of_eq (sum-groups N.flows N.tunnels c N.flow most valid))

unit-load : (w : ℕ) (N : Net) (P : Plan) (i l : ℕ) → InFlows N → (b : Bound)
    → load (with_unit 1 N) b (worst w (with_unit 1 N) P i l) ≤ load (with_unit 0 N) b (worst w (with_unit 0 N) P i l)
unfolding load worst on_link movers counts flow_of by_flow with_unit flow_sum across crosses row
unit-load w N P i l valid Bound.protected = by-flow N P i (reach w P i) l valid (λ f. leb (N.class f) 1)
unit-load w N P i l valid Bound.total = by-flow N P i (reach w P i) l valid (λ f. true)

-- the bounds do not read the unit
same-bound : (N : Net) (u v : ℕ) (b : Bound) (parts l x : ℕ) → exceeds (with_unit u N) b parts l x ≡ exceeds (with_unit v N) b parts l x
unfolding exceeds with_unit
same-bound N u v Bound.protected parts l x = refl
same-bound N u v Bound.total parts l x = refl

pub unit-weaker : (w : ℕ) (N : Net) (P : Plan) → InFlows N → accepted w (with_unit 0 N) P ≡ true → accepted w (with_unit 1 N) P ≡ true
unfolding missed_row missed_in between flow_sum row step_count worst_over with_unit
unit-weaker w N P valid =
    passes w w (with_unit 0 N) (with_unit 1 N) P refl refl
    (λ i l h b. (i, h, λ e. kept-mono (with_unit 1 N) b P.parts l (unit-load w N P i l valid b) (same-bound N 1 0 b P.parts l _ ∙ e)))

unit_steps : (w : ℕ) (N : Net) (q : ℕ) → InFlows N → fewest w (with_unit 0 N) ≡ some q → (p : ℕ) × (fewest w (with_unit 1 N) ≡ some p) × (p ≤ q)
unfolding even even_row with_unit
unit_steps w N q valid e =
    let s = fewest-some w (with_unit 0 N) q e in
    fewest-least w (with_unit 1 N) q s.0 s.1 (unit-weaker w N (even N q) valid s.2)

-- ---- with a lesser lag: each window lies within one of the greater

inside : (w v : ℕ) (N : Net) (P : Plan) (i : ℕ) → v ≤ w → i < step_count v N P
    → (j : ℕ) × (j < step_count w N P) × (j ≤ i) × (i + reach v P i ≤ j + reach w P j)
unfolding step_count
inside w v N P i h k =
    let j : ℕ = min i (P.steps - w) in
    let ends : min (i + v) P.steps ≤ min (j + w) P.steps = omega arith in
    (j, omega arith, omega arith, omega (arith, window-end v P i (omega arith), window-end w P j (omega arith)))

lag-load : (w v : ℕ) (N : Net) (P : Plan) (i j l : ℕ) (b : Bound) → j ≤ i → i + reach v P i ≤ j + reach w P j → load N b (worst v N P i l) ≤ load N b (worst w N P j l)
unfolding worst
lag-load w v N P i j l b low high =
    load-mono N b (λ m. largest-le (reach v P i) _ _ (λ k h.
    let e : j + (i + k - j) ≡ i + k = omega arith in
    let in_window : i + k - j ≤ reach w P j = omega arith in
    rw (← e) (largest-ge (reach w P j) (λ n. on_link N l (row N P (j + n)) m) (i + k - j) in_window)))

pub lag-weaker : (w v : ℕ) (N : Net) (P : Plan) → v ≤ w → accepted w N P ≡ true → accepted v N P ≡ true
unfolding worst_over
lag-weaker w v N P h =
    passes w v N N P refl refl
    (λ i l k b. let s = inside w v N P i h k in (s.0, s.1, λ e. kept-mono N b P.parts l (lag-load w v N P i s.0 l b s.2 s.3) e))

pub weaker : Weaker
weaker = record { unit = unit-weaker; unit_steps = unit_steps; lag = lag-weaker }

-- ---- what does not read the unit

counted_same : (N : Net) (u : ℕ) (b : Bound) (t : ℕ) → counts (with_unit u N) b (mover_of (with_unit u N) t) ≡ counts N b (mover_of N t)
unfolding counts with_unit
counted_same N u Bound.protected t = ap (λ (f : ℕ). leb (N.class f) 1) (flow-mover (with_unit u N) t ∙ sym (flow-mover N t))
counted_same N u Bound.total t = refl

across-same : (N : Net) (u l : ℕ) (x : ℕ → ℕ) → across (with_unit u N) l x ≡ across N l x
unfolding across crosses with_unit
across-same N u l x = refl

-- a load where all show one row is the tunnels' sum
same_load : (N : Net) (u : ℕ) (b : Bound) (l : ℕ) (x : ℕ → ℕ) → InFlows N → load (with_unit u N) b (on_link (with_unit u N) l x) ≡ load N b (on_link N l x)
unfolding with_unit
same_load N u b l x valid =
    load-tunnels (with_unit u N) b l x valid
    ∙ ap₂ (λ (c : ℕ → Bool) (y : ℕ → ℕ). sum_over N.tunnels c y) (fun_ext (counted_same N u b)) (across-same N u l x)
    ∙ sym (load-tunnels N b l x valid)

same-leaves : (N : Net) (u : ℕ) (x : ℕ → ℕ) (l : ℕ) → InFlows N → leaves_scratch (with_unit u N) x l ≡ leaves_scratch N x l
unfolding leaves_scratch with_unit
same-leaves N u x l valid = rw (same_load N u Bound.protected l x valid, same_load N u Bound.total l x valid) refl

same-scratch : (N : Net) (u : ℕ) → InFlows N → keeps_scratch (with_unit u N) ≡ keeps_scratch N
unfolding keeps_scratch with_unit
same-scratch N u valid =
    ap is_none (first_cong _ _ N.links (λ l _. ap₂ (λ (o n : Bool). only_if (not (o && n)) l) (same-leaves N u N.old l valid) (same-leaves N u N.new l valid)))

pub any-unit : AnyUnit
unfolding missed_rate missed_by missed_row missed_in between flow_sum row with_unit
any-unit = record { rates = λ N u. refl; rows = λ N P u. refl; scratch = same-scratch }
