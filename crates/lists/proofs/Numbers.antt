-- Where the numbers of a judged list stand, and what is read of them: l is the list inside, s the list that a clause sees.
use Prim.Native.Nat.{ℕ, ◌+◌, ◌-◌, ◌<◌, ◌≤◌}
use mathlib.Core.Path.{◌≡◌, ap, ap₂, ◌∙◌, subst⁻¹}
use mathlib.Core.List.{List}
use native.Mathlib.Omega.{arith}
use lib.ListN.{length}
use Rattle.lists.specs.declared.Network.{Network}
use Rattle.lists.specs.declared.PlanSizes.{PlanSizes}
use Rattle.lists.specs.Lists.{at, network_sizes, link_at, flow_at, tunnel_at, next_in, held_of, network_of, plan_sizes, row_at, plan_of, most_plan}
use Rattle.lists.specs.Good.{GoodNetwork, GoodPlan}
use Rattle.lists.proofs.Positions.{LinkPlace, FlowPlace, NextPlace, TunnelPlace, link-place, flow-place, next_place, tunnel-place, row-in, short-plan}

module _ (l s : List ℕ) (same : l ≡ s) (g : GoodNetwork l) (n : Network) (e : n ≡ network_sizes l) where
  own : (count : Network → ℕ) (k : ℕ) → k < count (network_sizes s) → k < count n
  own count k h = subst⁻¹ (λ (m : Network). k < count m) (e ∙ ap network_sizes same) h

  module _ (k i : ℕ) where
    pub link-stands : k < (network_sizes s).links → i ≡ link_at n k → LinkPlace l k i
    link-stands h q = link-place l g.ranges.sized n e k i (own (λ m. m.links) k h) q

    pub flow-stands : k < (network_sizes s).flows → i ≡ flow_at n k → FlowPlace l k i
    flow-stands h q = flow-place l g.ranges.sized n e k i (own (λ m. m.flows) k h) q

    pub next-stands : k < (network_sizes s).flows → i ≡ flow_at n k → NextPlace l k i
    next-stands h q = next_place l g.ranges.sized n e k i (own (λ m. m.flows) k h) q

    pub tunnel-stands : k < (network_sizes s).tunnels → i ≡ tunnel_at n k → TunnelPlace l k i
    tunnel-stands h q = tunnel-place l g.ranges.sized n e k i (own (λ m. m.tunnels) k h) q

module _ (l s : List ℕ) (same : l ≡ s) where
  pub overrun-is : at l 2 ≡ (network_of s).overrun
  unfolding network_of
  overrun-is = ap (λ (m : List ℕ). at m 2) same

  module _ (k i : ℕ) where
    pub cap-is : (held : ℕ) → held ≡ held_of l k → LinkPlace l k i → at l i - held ≡ (network_of s).cap k
    unfolding network_of
    cap-is held q p = ap₂ (λ (j h : ℕ). at l j - h) p.here q ∙ ap (λ (m : List ℕ). at m (link_at (network_sizes m) k) - held_of m k) same

    pub class-is : FlowPlace l k i → at l i ≡ (network_of s).class k
    unfolding network_of
    class-is p = ap (at l) p.here ∙ ap (λ (m : List ℕ). at m (flow_at (network_sizes m) k)) same

    pub rate-is : FlowPlace l k i → at l (i + 1) ≡ (network_of s).rate k
    unfolding network_of
    rate-is p = ap (λ (j : ℕ). at l (j + 1)) p.here ∙ ap (λ (m : List ℕ). at m (flow_at (network_sizes m) k + 1)) same

    pub next-is : (last : ℕ) → last ≡ next_in (network_sizes l).edition → NextPlace l k i → at l (i + last) ≡ (network_of s).next k
    unfolding network_of
    next-is last q p = ap₂ (λ (j h : ℕ). at l (j + h)) p.here q ∙ ap (λ (m : List ℕ). at m (flow_at (network_sizes m) k + next_in (network_sizes m).edition)) same

    pub flow-is : TunnelPlace l k i → at l i ≡ (network_of s).flow k
    unfolding network_of
    flow-is p = ap (at l) p.here ∙ ap (λ (m : List ℕ). at m (tunnel_at (network_sizes m) k)) same

    pub via-is : TunnelPlace l k i → at l (i + 1) ≡ (network_of s).via k
    unfolding network_of
    via-is p = ap (λ (j : ℕ). at l (j + 1)) p.here ∙ ap (λ (m : List ℕ). at m (tunnel_at (network_sizes m) k + 1)) same

    pub old-is : TunnelPlace l k i → at l (i + 2) ≡ (network_of s).old k
    unfolding network_of
    old-is p = ap (λ (j : ℕ). at l (j + 2)) p.here ∙ ap (λ (m : List ℕ). at m (tunnel_at (network_sizes m) k + 2)) same

    pub new-is : TunnelPlace l k i → at l (i + 3) ≡ (network_of s).new k
    unfolding network_of
    new-is p = ap (λ (j : ℕ). at l (j + 3)) p.here ∙ ap (λ (m : List ℕ). at m (tunnel_at (network_sizes m) k + 3)) same

module _ (l s : List ℕ) (same : l ≡ s) (n : Network) (e : n ≡ network_sizes l) where
  pub links-is : n.links ≡ (network_of s).links
  unfolding network_of
  links-is = ap (λ (m : Network). m.links) (e ∙ ap network_sizes same)

  pub flows-is : n.flows ≡ (network_of s).flows
  unfolding network_of
  flows-is = ap (λ (m : Network). m.flows) (e ∙ ap network_sizes same)

  pub tunnels-is : n.tunnels ≡ (network_of s).tunnels
  unfolding network_of
  tunnels-is = ap (λ (m : Network). m.tunnels) (e ∙ ap network_sizes same)

-- ---- a plan's

module _ (l s : List ℕ) (same : l ≡ s) (n : PlanSizes) (e : n ≡ plan_sizes l) where
  pub parts-is : n.parts ≡ (plan_of s).parts
  unfolding plan_of
  parts-is = ap (λ (m : PlanSizes). m.parts) (e ∙ ap plan_sizes same)

  pub steps-is : n.steps ≡ (plan_of s).steps
  unfolding plan_of
  steps-is = ap (λ (m : PlanSizes). m.steps) (e ∙ ap plan_sizes same)

  pub listed-is : (a t i : ℕ) → i ≡ row_at n a → at l (i + t) ≡ (plan_of s).at a t
  unfolding plan_of
  listed-is a t i q = ap (λ (j : ℕ). at l (j + t)) (q ∙ ap (λ (m : PlanSizes). row_at m a) e) ∙ ap (λ (m : List ℕ). at m (row_at (plan_sizes m) a + t)) same
