-- The loads and the marks of a step as code gathers them: tunnel by tunnel, or with `unit=1` flow by flow.
use Prim.Native.Nat.{ℕ, ◌+◌, ◌≤◌, max}
use mathlib.Core.Path.{◌≡◌, refl, ap, ap₂, ◌∙◌}
use mathlib.Core.Bool.{Bool, true, false, cond, ◌&&◌}
use lib.Dec.{leb, ltb}
use native.Mathlib.Omega.{arith}
use Rattle.model.specs.Sum.{sum_over}
use Rattle.model.specs.Largest.{largest}
use Rattle.model.specs.Net.{Net, Plan, row}
use Rattle.model.specs.Scan.{Bound, Overload}
use Rattle.model.specs.ThreeSums.{old_load, new_load, peak_load}
use Rattle.model.specs.Rule.{crosses, across, flow_sum, by_flow, mover_of, on_link, counts, load, reach, worst, mark}
use Rattle.model.proofs.Largests.{largest-le, largest-cong}
use Rattle.model.proofs.Movers.{load-cong, flow-mover, movers-tunnels, mover-tunnel, flow-tunnel, on-tunnel, movers-flows, mover-flow, flow-flow, on-flow}

-- the larger or the largest of what a tunnel puts on a link is the larger or the largest amount, if it crosses the link
larger-across : (b : Bool) (u v : ℕ) → max (cond b u 0) (cond b v 0) ≡ cond b (max u v) 0
larger-across true u v = refl
larger-across false u v = refl

largest-across : (b : Bool) (n : ℕ) (f : ℕ → ℕ) → largest n (λ k. cond b (f k) 0) ≡ cond b (largest n f) 0
largest-across true n f = refl
largest-across false n f = let z : largest n (λ k. 0) ≤ 0 = largest-le n (λ k. 0) 0 (λ k h. omega arith) in omega arith

pub rises-across : (b : Bool) (u v : ℕ) → (b && ltb (cond b u 0) (cond b v 0)) ≡ (b && ltb u v)
rises-across true u v = refl
rises-across false u v = refl

-- where all show the same row, a link's load is gathered tunnel by tunnel, whatever the unit (`load-tunnels` of Movers.antt), by the tunnels' own classes
pub counts-mover : (N : Net) (t : ℕ) → counts N Bound.protected (mover_of N t) ≡ leb (N.class (N.flow t)) 1
unfolding counts
counts-mover N t = simp (flow-mover N t)

module _ (N : Net) (e : by_flow N ≡ false) where
  pub load-by-tunnel : (b : Bound) (y : ℕ → ℕ) → load N b y ≡ sum_over N.tunnels (counts N b) y
  unfolding load
  load-by-tunnel b y = ap (λ (n : ℕ). sum_over n (counts N b) y) (movers-tunnels N e)

  pub larger-by-tunnel : (l : ℕ) (x y : ℕ → ℕ) (t : ℕ) → max (on_link N l x t) (on_link N l y t) ≡ across N l (λ u. max (x u) (y u)) t
  unfolding across
  larger-by-tunnel l x y t = ap₂ max (on-tunnel N e l x t) (on-tunnel N e l y t) ∙ larger-across (crosses N l t) (x t) (y t)

  pub worst-by-tunnel : (w : ℕ) (P : Plan) (i l t : ℕ) → worst w N P i l t ≡ across N l (λ u. largest (reach w P i) (λ k. row N P (i + k) u)) t
  unfolding worst across
  worst-by-tunnel w P i l t =
      largest-cong (reach w P i) _ _ (λ k _. on-tunnel N e l (row N P (i + k)) t) ∙ largest-across (crosses N l t) (reach w P i) (λ k. row N P (i + k) t)

  pub counts-by-tunnel : (t : ℕ) → counts N Bound.protected t ≡ leb (N.class (N.flow t)) 1
  unfolding counts
  counts-by-tunnel t = simp (flow-tunnel N e)

  -- a mark says that the tunnel's own largest amount exceeds that of the first row
  pub mark-by-tunnel : (w : ℕ) (P : Plan) (o : Overload) (t : ℕ)
      → mark w N P o t ≡ (crosses N o.link t && ltb (row N P o.from t) (largest (reach w P o.from) (λ k. row N P (o.from + k) t)))
  unfolding mark across
  mark-by-tunnel w P o t =
      simp (mover-tunnel N e, on-tunnel N e, worst-by-tunnel w P)
      (rises-across (crosses N o.link t) (row N P o.from t) (largest (reach w P o.from) (λ k. row N P (o.from + k) t)))

  -- the three sums of an even plan
  pub sums-by-tunnel : (b : Bound) (l : ℕ)
      → (old_load N b l ≡ sum_over N.tunnels (counts N b) (across N l N.old))
      × (new_load N b l ≡ sum_over N.tunnels (counts N b) (across N l N.new))
      × (peak_load N b l ≡ sum_over N.tunnels (counts N b) (across N l (λ t. max (N.old t) (N.new t))))
  unfolding old_load new_load peak_load
  sums-by-tunnel b l = (
    load-cong N b (λ t _. on-tunnel N e l N.old t) ∙ load-by-tunnel b _,
    load-cong N b (λ t _. on-tunnel N e l N.new t) ∙ load-by-tunnel b _,
    load-cong N b (λ t _. larger-by-tunnel l N.old N.new t) ∙ load-by-tunnel b _,
  )

module _ (N : Net) (e : by_flow N ≡ true) where
  pub load-by-flow : (b : Bound) (y : ℕ → ℕ) → load N b y ≡ sum_over N.flows (counts N b) y
  unfolding load
  load-by-flow b y = ap (λ (n : ℕ). sum_over n (counts N b) y) (movers-flows N e)

  pub larger-by-flow : (l : ℕ) (x y : ℕ → ℕ) (f : ℕ) → max (on_link N l x f) (on_link N l y f) ≡ max (flow_sum N (across N l x) f) (flow_sum N (across N l y) f)
  larger-by-flow l x y f = ap₂ max (on-flow N e l x f) (on-flow N e l y f)

  pub worst-by-flow : (w : ℕ) (P : Plan) (i l f : ℕ) → worst w N P i l f ≡ largest (reach w P i) (λ k. flow_sum N (across N l (row N P (i + k))) f)
  unfolding worst
  worst-by-flow w P i l f = largest-cong (reach w P i) _ _ (λ k _. on-flow N e l (row N P (i + k)) f)

  pub counts-by-flow : (f : ℕ) → counts N Bound.protected f ≡ leb (N.class f) 1
  unfolding counts
  counts-by-flow f = simp (flow-flow N e)

  -- a mark says that the largest sum of the tunnel's flow exceeds that of the first row
  pub mark-by-flow : (w : ℕ) (P : Plan) (o : Overload) (t : ℕ)
      → mark w N P o t
      ≡ (crosses N o.link t && ltb (flow_sum N (across N o.link (row N P o.from)) (N.flow t)) (largest (reach w P o.from) (λ k. flow_sum N (across N o.link (row N P (o.from + k))) (N.flow t))))
  unfolding mark
  mark-by-flow w P o t = simp (mover-flow N e, on-flow N e, worst-by-flow w P)

  -- the three sums of an even plan; those of old and of new are also the tunnels' (`load-tunnels` of Movers.antt)
  pub sums-by-flow : (b : Bound) (l : ℕ)
      → (old_load N b l ≡ sum_over N.flows (counts N b) (flow_sum N (across N l N.old)))
      × (new_load N b l ≡ sum_over N.flows (counts N b) (flow_sum N (across N l N.new)))
      × (peak_load N b l ≡ sum_over N.flows (counts N b) (λ f. max (flow_sum N (across N l N.old) f) (flow_sum N (across N l N.new) f)))
  unfolding old_load new_load peak_load
  sums-by-flow b l = (
    load-cong N b (λ f _. on-flow N e l N.old f) ∙ load-by-flow b _,
    load-cong N b (λ f _. on-flow N e l N.new f) ∙ load-by-flow b _,
    load-cong N b (λ f _. larger-by-flow l N.old N.new f) ∙ load-by-flow b _,
  )
