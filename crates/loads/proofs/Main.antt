-- "At every link the gathered sums equal the rule's".
use Prim.Native.Nat.{ℕ, ◌+◌}
use mathlib.Core.Path.{◌≡◌, sym, ◌∙◌}
use mathlib.Core.Bool.{true, false}
use Rattle.model.specs.Net.{Net, Plan, row}
use Rattle.model.specs.Scan.{Bound}
use Rattle.model.specs.Rule.{crosses, across, flow_sum, by_flow, counts, load, reach, worst}
use Rattle.model.proofs.Sums.{sum-cong}
use Rattle.model.proofs.Largests.{largest-cong}
use Rattle.model.proofs.Gathered.{load-by-tunnel, load-by-flow, worst-by-tunnel, worst-by-flow}
use Rattle.loads.specs.Claim.{worst_amount, Gathering}
use Rattle.loads.specs.Gathered.{gathered, of_flow, largest_sum, gathered_by_flow}
use Rattle.loads.proofs.Passes.{gathered-sum}

module _ (w : ℕ) (N : Net) (P : Plan) (i l : ℕ) (b : Bound) where
  by-tunnel : by_flow N ≡ false → gathered N.via (counts N b) (worst_amount w N P i) N.tunnels l ≡ load N b (worst w N P i l)
  unfolding crosses across worst_amount
  by-tunnel e =
      gathered-sum N.via (counts N b) (worst_amount w N P i) N.tunnels l
      ∙ sum-cong N.tunnels (counts N b) (λ t _ _. sym (worst-by-tunnel N e w P i l t))
      ∙ sym (load-by-tunnel N e b (worst w N P i l))

  -- what a flow's tunnels gather on a link is their sum across it
  of-flow : (x : ℕ → ℕ) (f : ℕ) → gathered N.via (of_flow N.flow f) x N.tunnels l ≡ flow_sum N (across N l x) f
  unfolding flow_sum crosses across of_flow
  of-flow x f = gathered-sum N.via (of_flow N.flow f) x N.tunnels l

  by-flow : by_flow N ≡ true → gathered_by_flow N.via N.flow (counts N b) (reach w P i) (λ k. row N P (i + k)) N.tunnels N.flows l ≡ load N b (worst w N P i l)
  unfolding gathered_by_flow largest_sum
  by-flow e =
      sum-cong N.flows (counts N b) (λ f _ _. largest-cong (reach w P i) _ _ (λ k _. of-flow (row N P (i + k)) f) ∙ sym (worst-by-flow N e w P i l f))
      ∙ sym (load-by-flow N e b (worst w N P i l))

pub gathering : Gathering
gathering = record { tunnels = by-tunnel; flows = by-flow }
