-- What passes with `unit=0` passes with `unit=1`.
use Prim.Native.Nat.{ℕ, ◌+◌, ◌-◌, ◌≤◌, ◌<◌}
use mathlib.Core.Path.{◌≡◌, refl, sym, ap, ap₂, ◌∙◌, fun_ext, subst}
use mathlib.Core.Logic.{◌≢◌, ⊎_elim}
use mathlib.Core.Bool.{true, cond, true≢false}
use mathlib.Core.List.{List}
use mathlib.Core.Option.{none}
use native.Mathlib.Omega.{arith}
use lib.Dec.{T, eqb}
use borrow.Author.Tests.{eqb-true, eq-eqb}
use Rattle.model.proofs.Searches.{bool_cases}
use lib.ListN.{length, get_or, set, length-set}
use lib.Seq.{get_or-set_same, get_or-set_other}
use Rattle.model.specs.Net.{Net, Plan, with_unit}
use Rattle.model.specs.Outcome.{good}
use Rattle.model.specs.Rule.{missed_rate, accepted}
use Rattle.model.specs.Weaker.{InFlows}
use Rattle.model.proofs.Weaker.{weaker, any-unit}
use Rattle.model.specs.Even.{even_row, even}
use Rattle.planner.proofs.Main.{claim}
use Rattle.lists.specs.Lists.{at, has_held, head_size, network_sizes, link_at, flow_at, tunnel_at, next_in, held_of, network_of}
use Rattle.lists.specs.declared.Network as counts
use Rattle.lists.specs.Good.{LinksIn, FlowsIn, TunnelsIn, GoodNetwork}
use Rattle.forms.specs.Form.{allows, network_lines}
use Rattle.forms.specs.declared.form.Form.TheVariants.{Network}
use Rattle.std.specs.declared.option.Option.TheVariants.{None}
use Rattle.forms.specs.Named.{judge_network}
use Rattle.forms.specs.Read.{add_up}
use Rattle.forms.proofs.Good.{good-network}
use Rattle.forms.proofs.Walks.{judged-good, good-judged}
use Rattle.judges.specs.Ranges.{HeadIn}
use Rattle.judges.proofs.InRange.{InRange, in-range-whole, whole_in_range}
use Rattle.lists.proofs.Positions.{with-unit, head-size, head-least, head_in as head-in-list, link-after, flow-after, tunnel-after}
use Rattle.product.specs.Units.{UnitZero, unit_one, Units}
use Rattle.product.proofs.Main.{returns-planned, planned-lag}
use Rattle.product.proofs.Plans.{demand2}
use Rattle.product.proofs.Fewer.{less-accepts, less-returns}

-- a network by its numbers and its functions, which are the same if they are everywhere
abbrev net : ℕ → ℕ → ℕ → counts.Network → (ℕ → ℕ) → (ℕ → ℕ) → (ℕ → ℕ) → (ℕ → ℕ) → (ℕ → ℕ) → (ℕ → ℕ) → (ℕ → ℕ) → (ℕ → ℕ) → Net
net scratch overrun unit sizes cap class rate next flow via old new =
    record {
      scratch = scratch;
      overrun = overrun;
      unit = unit;
      links = sizes.links;
      flows = sizes.flows;
      tunnels = sizes.tunnels;
      cap = cap;
      class = class;
      rate = rate;
      next = next;
      flow = flow;
      via = via;
      old = old;
      new = new;
    }

net-same : (s o u : ℕ) (z : counts.Network) {cap cap' class class' rate rate' next next' flow flow' via via' old old' new new' : ℕ → ℕ}
    → ((k : ℕ) → cap k ≡ cap' k) → ((f : ℕ) → class f ≡ class' f) → ((f : ℕ) → rate f ≡ rate' f) → ((f : ℕ) → next f ≡ next' f)
    → ((t : ℕ) → flow t ≡ flow' t) → ((t : ℕ) → via t ≡ via' t) → ((t : ℕ) → old t ≡ old' t) → ((t : ℕ) → new t ≡ new' t)
    → net s o u z cap class rate next flow via old new ≡ net s o u z cap' class' rate' next' flow' via' old' new'
net-same s o u z {cap = cap} {cap' = cap'} {class = class} {class' = class'} {rate = rate} {rate' = rate'} {next = next} {next' = next'} {flow = flow} {flow' = flow'} {via = via} {via' = via'} {old = old} {old' = old'} {new = new} {new' = new'} a b c d f g h i =
    ap₂ (λ (x y : ℕ → ℕ). net s o u z x y rate next flow via old new) (fun_ext a) (fun_ext b)
    ∙ ap₂ (λ (x y : ℕ → ℕ). net s o u z cap' class' x y flow via old new) (fun_ext c) (fun_ext d)
    ∙ ap₂ (λ (x y : ℕ → ℕ). net s o u z cap' class' rate' next' x y old new) (fun_ext f) (fun_ext g)
    ∙ ap₂ (λ (x y : ℕ → ℕ). net s o u z cap' class' rate' next' flow' via' x y) (fun_ext h) (fun_ext i)

-- ---- the same list with another unit

module _ (n : List ℕ) (e : at n 0 ≡ 3) (long : 3 < length n) where
  abbrev m : List ℕ
  m = set n 3 1

  others : (i : ℕ) → i ≢ 3 → at m i ≡ at n i
  others i h = get_or-set_other n 3 i 1 0 h

  same-edition : at m 0 ≡ at n 0
  same-edition = others 0 (λ z. omega (arith, z))

  after-head : head_size (at n 0) ≡ 7
  after-head = rw e (with-unit 3 refl)

  same-sizes : network_sizes m ≡ network_sizes n
  unfolding network_sizes
  same-sizes =
      rw (same-edition, after-head, others 4 (λ z. omega (arith, z)), others 5 (λ z. omega (arith, z)), others 6 (λ z. omega (arith, z))) refl

  -- where the numbers of links, flows and tunnels stand
  starts : link_at (network_sizes n) 0 ≡ 7
  unfolding network_sizes
  starts = head-size (network_sizes n) ∙ after-head

  late : (i : ℕ) → link_at (network_sizes n) 0 ≤ i → at m i ≡ at n i
  late i h = others i (λ z. omega (arith, starts, z))

  held_same : (k : ℕ) → held_of m k ≡ held_of n k
  unfolding held_of
  held_same k = rw (same-edition, same-sizes, late (link_at (network_sizes n) k + 1) (omega (arith, link-after (network_sizes n) k))) refl

  of-link : (k : ℕ) → at m (link_at (network_sizes n) k) ≡ at n (link_at (network_sizes n) k)
  of-link k = late _ (link-after (network_sizes n) k)

  of-class : (f : ℕ) → at m (flow_at (network_sizes n) f) ≡ at n (flow_at (network_sizes n) f)
  of-class f = late _ (flow-after (network_sizes n) f)

  of-flow : (j f : ℕ) → at m (flow_at (network_sizes n) f + j) ≡ at n (flow_at (network_sizes n) f + j)
  of-flow j f = late _ (omega (arith, flow-after (network_sizes n) f))

  of_owner : (t : ℕ) → at m (tunnel_at (network_sizes n) t) ≡ at n (tunnel_at (network_sizes n) t)
  of_owner t = late _ (tunnel-after (network_sizes n) t)

  of-tunnel : (j t : ℕ) → at m (tunnel_at (network_sizes n) t + j) ≡ at n (tunnel_at (network_sizes n) t + j)
  of-tunnel j t = late _ (omega (arith, tunnel-after (network_sizes n) t))

  unit-here : at m 3 ≡ 1
  unit-here = get_or-set_same n 3 1 0 long

  same-network : network_of m ≡ with_unit 1 (network_of n)
  unfolding network_of with_unit
  same-network =
      let u : cond (has_held (at m 0)) (at m 3) 0 ≡ 1 = rw (same-edition, e, unit-here) refl in
      rw (u, others 1 (λ z. omega (arith, z)), others 2 (λ z. omega (arith, z)), same-sizes)
      (net-same (at n 1) (at n 2) 1 (network_sizes n)
      (λ k. ap₂ ◌-◌ (of-link k) (held_same k)) of-class (of-flow 1) (of-flow (next_in (network_sizes n).edition)) of_owner (of-tunnel 1) (of-tunnel 2) (of-tunnel 3))

  -- its numbers are in their ranges, too
  head_in : HeadIn Network n 7 → (i : ℕ) → i < 7 → T (allows (get_or (network_lines 3) i None) (at m i))
  head_in h i less =
      ⊎_elim
      (λ y. let z : i ≡ 3 = eqb-true i 3 y in rw (z, unit-here) tt)
      (λ y. rw (others i (λ z. true≢false (sym (eq-eqb i 3 z) ∙ y))) (subst (λ (v : ℕ). T (allows (get_or (network_lines v) i None) (at n i))) e (h.each i less)))
      (bool_cases (eqb i 3))

  module _ (w : InRange n) where
    links-in : LinksIn m (network_sizes m).links
    links-in = record { cap = λ k h. rw (same-sizes, of-link k) (w.links.cap k (rw same-sizes at h)); held = λ k h. rw (same-sizes, of-link k, held_same k) (w.links.held k (rw same-sizes at h)) }

    flows-in : FlowsIn m (network_sizes m).flows
    flows-in =
        record {
          class = λ f h. rw (same-sizes, of-class f) (w.flows.class f (rw same-sizes at h));
          rate = λ f h. rw (same-sizes, of-flow 1 f) (w.flows.rate f (rw same-sizes at h));
          next = λ f h. rw (same-sizes, of-flow (next_in (network_sizes n).edition) f) (w.flows.next f (rw same-sizes at h));
        }

    tunnels-in : TunnelsIn m (network_sizes m).tunnels
    tunnels-in =
        record {
          flow = λ t h. rw (same-sizes, of_owner t) (w.tunnels.flow t (rw same-sizes at h));
          via = λ t h. rw (same-sizes, of-tunnel 1 t) (w.tunnels.via t (rw same-sizes at h));
          old = λ t h. rw (same-sizes, of-tunnel 2 t) (w.tunnels.old t (rw same-sizes at h));
          new = λ t h. rw (same-sizes, of-tunnel 3 t) (w.tunnels.new t (rw same-sizes at h));
        }

    in-range : InRange m
    in-range =
        record {
          head = record {
            each = λ i h.
                subst (λ (v : ℕ). T (allows (get_or (network_lines v) i None) (at m i))) (sym (same-edition ∙ e))
                (head_in (subst (λ (v : ℕ). HeadIn Network n (length (network_lines v))) e w.head) i (subst (λ (v : ℕ). i < length (network_lines v)) (same-edition ∙ e) h));
          };
          size = rw (length-set n 3 1, same-sizes) w.size;
          links = links-in;
          flows = flows-in;
          tunnels = tunnels-in;
        }

-- ---- lists that differ in the unit alone

module _ (n : List ℕ) (z : UnitZero n) (j : judge_network n ≡ good n) where
  good-n : GoodNetwork n
  good-n = (good-network n n j).1

  long : 3 < length n
  long = omega (arith, good-n.ranges.sized.size, head-in-list n good-n.ranges.sized.size, head-least (network_sizes n))

  same-net : network_of (unit_one n) ≡ with_unit 1 (network_of n)
  same-net = same-network n z.0 long

  own-unit : with_unit 0 (network_of n) ≡ network_of n
  unfolding network_of with_unit
  own-unit = let u : cond (has_held (at n 0)) (at n 3) 0 ≡ 0 = rw (z.0, z.1) refl in rw u refl

  sums_same : missed_rate (network_of (unit_one n)) ≡ none
  sums_same = ap missed_rate same-net ∙ any-unit.rates (network_of n) 1 ∙ good-n.sums

  judged : judge_network (unit_one n) ≡ good (unit_one n)
  unfolding add_up
  judged = good-judged Network (unit_one n) (in-range-whole (unit_one n) (in-range n z.0 long (whole_in_range n (judged-good Network n n j).whole))) (rw sums_same refl)

  in-flows : InFlows (network_of n)
  unfolding network_of
  in-flows t h = good-n.ranges.tunnels.flow t h

  tunnels-same : (network_of n).tunnels ≡ (network_of (unit_one n)).tunnels
  unfolding with_unit
  tunnels-same = sym (ap (λ (N : Net). N.tunnels) same-net)

  -- what passes with `unit=0` passes with `unit=1`
  passes : (w : ℕ) (P : Plan) → accepted w (network_of n) P ≡ true → accepted w (network_of (unit_one n)) P ≡ true
  passes w P a = rw same-net (weaker.unit w (network_of n) P in-flows (rw own-unit a))

  even-same : (q : ℕ) → even (network_of (unit_one n)) q ≡ even (network_of n) q
  unfolding even even_row with_unit
  even-same q = rw same-net refl

  passes-even : (w q : ℕ) → accepted w (network_of n) (even (network_of n) q) ≡ true → accepted w (network_of (unit_one n)) (even (network_of (unit_one n)) q) ≡ true
  passes-even w q a = subst (λ (P : Plan). accepted w (network_of (unit_one n)) P ≡ true) (sym (even-same q)) (passes w (even (network_of n) q) a)

pub units : Units
units = record {
  checker = λ w n p room z a.
      let r = ((demand2.accepts w n p room).0 a).0 in
      less-accepts w w n (unit_one n) r.lag (judged n z r.network) (tunnels-same n z r.network) (passes n z r.network w) p room a;
  planner = λ w n p out z r.
      let e = returns-planned w n p out r in
      let j = (claim.safe w n p e).network in
      less-returns w w n (unit_one n) (planned-lag w n p e) (judged n z j) (tunnels-same n z j) (passes-even n z j w) p out r;
}
