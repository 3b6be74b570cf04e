-- Laws of the worst loads of a link, added up mover by mover.
use Prim.Native.Nat.{ℕ, ◌+◌, ◌*◌, ◌^◌, ◌≤◌, ◌<◌, max}
use mathlib.Core.Path.{◌≡◌, refl, sym, ap, ap₂, ◌∙◌}
use mathlib.Core.Bool.{Bool, true, false, cond}
use mathlib.Core.List.{List}
use native.Mathlib.Nat.{mul-le-mul_right, max-le}
use native.Mathlib.Numerals.{add-one}
use native.Mathlib.Omega.{arith}
use lib.Dec.{eqb}
use lib.ListN.{get_or}
use Rattle.model.specs.Limits.{most_amount, most_steps, most_flows, most_tunnels}
use Rattle.model.specs.Net.{Net, Plan, row}
use Rattle.model.specs.Rule.{across, by_flow, flow_sum, movers, counts, load, worst}
use Rattle.model.specs.Scan.{protected, total}
use Rattle.model.specs.Sets.{in_set}
use Rattle.model.proofs.Searches.{cond-most}
use Rattle.model.proofs.Sums.{sum-zero, sum-on, sum_bound}
use Rattle.model.proofs.Today.{worst-tunnel, worst-flow}
use Rattle.lists.specs.Lists.{network_sizes, network_of, plan_sizes, plan_of}
use Rattle.judges.specs.Sums.{Gathered}
use Rattle.judges.proofs.Gathering.{gathered-all}
use Rattle.amounts.specs.Rows.{Checkable, larger_row}
use Rattle.checker.proofs.Marking.{across-of, across-small}
use Rattle.step_loads.specs.Worst.{worst_load}
use Rattle.step_loads.specs.Inner.{Summed}

module _ (N : Net) (P : Plan) (i l most : ℕ) where
  pub summed-none : Summed N P i l most 0 0 0
  summed-none = record { protected = sym (sum-zero _ _); total = sym (sum-zero _ _); few = (omega arith, omega arith) }

  module _ (n x y v w : ℕ) (s : Summed N P i l most n x y) (hv : v ≤ most) where
    pub summed-fits : (k : ℕ) → n < k → k * most < 2 ^ 64 → y + v < 2 ^ 64
    summed-fits k h b = omega (arith, s.few, mul-le-mul_right most h)

    -- a mover more
    module _ (b : Bool) (hb : counts N protected n ≡ b) (e : w ≡ cond b v 0) where
      small : w ≤ v
      small = rw e (cond-most b v)

      pub protected-fits : (k : ℕ) → n < k → k * most < 2 ^ 64 → x + w < 2 ^ 64
      protected-fits k h m = omega (arith, s.few, small, mul-le-mul_right most h)

      pub summed-more : v ≡ worst 1 N P i l n → Summed N P i l most (n + 1) (x + w) (y + v)
      unfolding counts
      summed-more ev = record {
        protected = sum-on n (counts N protected) (worst 1 N P i l) s.protected (e ∙ ap₂ (λ (c : Bool) (u : ℕ). cond c u 0) (sym hb) ev);
        total = sum-on n (counts N total) (worst 1 N P i l) s.total ev;
        few = (omega (arith, s.few, small), omega (arith, s.few));
      }

  pub summed-all : (n x y : ℕ) → n ≡ movers N → Summed N P i l most n x y → (x ≡ worst_load N P i l protected) × (y ≡ worst_load N P i l total)
  unfolding worst_load load
  summed-all n x y e s = rw (← e) (s.protected, s.total)

-- ---- what a mover puts on the link: a tunnel, or a flow

-- a tunnel that crosses it puts its amount on it
pub across-by : (N : Net) (l t via v : ℕ) (x : ℕ → ℕ) → via ≡ N.via t → in_set via l ≡ true → v ≡ x t → v ≡ across N l x t
across-by N l t via v x hv h e = across-of N l t via v v x hv e (rw h refl)

module _ (n p : List ℕ) (k : Checkable n p) (i l : ℕ) (hi : i < (plan_sizes p).steps) where
  abbrev N : Net
  N = network_of n

  abbrev P : Plan
  P = plan_of p

  pub tunnel-worst : by_flow N ≡ false → (t v : ℕ) → v ≡ across N l (larger_row N P i) t → v ≡ worst 1 N P i l t
  unfolding plan_of larger_row
  tunnel-worst one t v e = e ∙ sym (worst-tunnel N one P i l t hi)

  module _ (whole : by_flow N ≡ true) (befores afters : List ℕ) (b : Gathered N (across N l (row N P i)) (network_of n).tunnels befores)
      (a : Gathered N (across N l (row N P (i + 1))) (network_of n).tunnels afters) (f v : ℕ) (hf : f < most_flows) (e : v ≡ max (get_or befores f 0) (get_or afters f 0)) where
    pub flow-worst : v ≡ worst 1 N P i l f
    unfolding plan_of
    flow-worst =
        e
        ∙ ap₂ max (gathered-all N _ befores f b hf) (gathered-all N _ afters f a hf ∙ ap (λ (r : ℕ). flow_sum N (across N l (row N P r)) f) (add-one i))
        ∙ sym (worst-flow N whole P i l f hi)

    pub flow-small : v ≤ most_tunnels * (most_amount * most_steps)
    unfolding network_of
    flow-small =
        rw e (max-le (sum_low i befores b (omega (arith, hi))) (sum_low (i + 1) afters a (omega (arith, hi))))
      where
        sum_low : (r : ℕ) (s : List ℕ) → Gathered N (across N l (row N P r)) N.tunnels s → r ≤ (plan_sizes p).steps → get_or s f 0 ≤ most_tunnels * (most_amount * most_steps)
        sum_low r s g h =
            let m = sum_bound (network_sizes n).tunnels (λ t. eqb (N.flow t) f) (across N l (row N P r)) (most_amount * most_steps) (λ t ht. across-small n p k r l t h ht) in
            omega (arith, g.sums f hf, m, k.network.ranges.sized.counts)
