-- Laws of the positions of a network's numbers, and of a plan's.
use Prim.Native.Nat.{ℕ, ◌+◌, ◌*◌, ◌-◌, ◌/◌, ◌%◌, ◌≤◌, ◌<◌}
use mathlib.Core.Path.{◌≡◌, refl, ap, subst, subst⁻¹, ◌∙◌}
use mathlib.Core.Bool.{true, false}
use mathlib.Core.Logic.{⊎_elim}
use mathlib.Core.List.{List}
use native.Mathlib.Decide.{dec_lt}
use native.Mathlib.Nat.{mul-le-mul, mul-le-mul_left, mul-le-mul_right, mod-lt, mod-eq_of_lt, mul-add-mod_self_right, div-add-mod', div-lt_iff_lt-mul}
use native.Mathlib.Omega.{arith}
use lib.ListN.{length}
use Rattle.model.specs.Limits.{most_steps}
use Rattle.model.proofs.Searches.{bool_cases}
use Rattle.lists.specs.declared.Network.{Network}
use Rattle.lists.specs.declared.Position.TheVariants.{Link, Flow, Tunnel}
use Rattle.lists.specs.Lists.{has_next, has_held, head_size, per_link, per_flow, next_in, network_sizes, link_at, flow_at, tunnel_at, network_size, plan_sizes, row_at, most_network, most_plan, most_numbers}
use Rattle.lists.specs.Good.{Limited, StandsAt, Sized, GoodPlan}

-- ---- numbers in groups of `per`, one after the other

module _ (per : ℕ) (some : 0 < per) where
  -- number i, of so many groups from `start` on, is number j of group g
  pub record Grouped (start count i : ℕ) : Type 0 where
    pub group : ℕ
    pub number : ℕ
    pub there : group < count
    pub within : number < per
    pub here : start + per * group + number ≡ i

  pub grouped : (start count i : ℕ) → start ≤ i → i < start + per * count → Grouped start count i
  grouped start count i h k =
      let m : ℕ = i - start in
      let less : m < count * per = omega arith in
      record {
        group = m / per;
        number = m % per;
        there = (div-lt_iff_lt-mul some).1 less;
        within = mod-lt m some;
        here = omega (arith, div-add-mod' m per);
      }

  pub before-end : (g count j : ℕ) → g < count → j < per → per * g + j < per * count
  before-end g count j h k = omega (arith, mul-le-mul_left per h)

  pub in_group : (g j : ℕ) → j < per → (per * g + j) % per ≡ j
  in_group g j h =
      let e : per * g + j ≡ g * per + j = omega arith in
      ap (λ (m : ℕ). m % per) e ∙ mul-add-mod_self_right g per j ∙ mod-eq_of_lt h

-- ---- how many numbers a head, a link and a flow have, by edition

module _ (edition : ℕ) where
  pub with-unit : has_held edition ≡ true → head_size edition ≡ 7
  unfolding head_size
  with-unit e = rw e refl

  pub without-unit : has_held edition ≡ false → head_size edition ≡ 6
  unfolding head_size
  without-unit e = rw e refl

  pub head-low : 6 ≤ head_size edition
  head-low = ⊎_elim (λ e. omega (arith, with-unit e)) (λ e. omega (arith, without-unit e)) (bool_cases (has_held edition))

  pub head-high : head_size edition ≤ 7
  head-high = ⊎_elim (λ e. omega (arith, with-unit e)) (λ e. omega (arith, without-unit e)) (bool_cases (has_held edition))

  pub two-a-link : has_held edition ≡ true → per_link edition ≡ 2
  unfolding per_link
  two-a-link e = rw e refl

  pub one-a-link : has_held edition ≡ false → per_link edition ≡ 1
  unfolding per_link
  one-a-link e = rw e refl

  pub link-some : 0 < per_link edition
  link-some = ⊎_elim (λ e. omega (arith, two-a-link e)) (λ e. omega (arith, one-a-link e)) (bool_cases (has_held edition))

  pub link-most : per_link edition ≤ 2
  link-most = ⊎_elim (λ e. omega (arith, two-a-link e)) (λ e. omega (arith, one-a-link e)) (bool_cases (has_held edition))

  -- the second number of a link is what is held of it
  pub second : 1 < per_link edition → has_held edition ≡ true
  second h = ⊎_elim (λ e. e) (λ e. absurd (omega (arith, one-a-link e))) (bool_cases (has_held edition))

  pub flow-some : 2 ≤ per_flow edition
  unfolding per_flow
  flow-some = ⊎_elim (λ e. rw e (omega arith)) (λ e. rw e (omega arith)) (bool_cases (has_next edition))

  pub flow-most : per_flow edition ≤ 3
  unfolding per_flow
  flow-most = ⊎_elim (λ e. rw e (omega arith)) (λ e. rw e (omega arith)) (bool_cases (has_next edition))

  pub flow-pos : 0 < per_flow edition
  flow-pos = omega (arith, flow-some)

  -- the third number of a flow is its next
  pub third : 2 < per_flow edition → has_next edition ≡ true
  unfolding per_flow
  third h = ⊎_elim (λ e. e) (λ e. absurd (omega (arith, rw e at h))) (bool_cases (has_next edition))

  pub with-next : has_next edition ≡ true → per_flow edition ≡ 3
  unfolding per_flow
  with-next e = rw e refl

  pub without-next : has_next edition ≡ false → per_flow edition ≡ 2
  unfolding per_flow
  without-next e = rw e refl

  -- the next is the last number of a flow: the third, or without a next the rate
  pub next_last : next_in edition < per_flow edition
  unfolding next_in
  next_last = omega (arith, flow-some)

  pub next-third : has_next edition ≡ true → next_in edition ≡ 2
  unfolding next_in
  next-third e = rw (with-next e)

  pub next-rate : has_next edition ≡ false → next_in edition ≡ 1
  unfolding next_in
  next-rate e = rw (without-next e)

pub most-in-all : most_network ≤ most_numbers
unfolding most_network
most-in-all = omega arith

-- ---- the links' numbers follow the head, the flows' those, and the tunnels' those

module _ (n : Network) where
  pub link-at : (k : ℕ) → link_at n k ≡ link_at n 0 + per_link n.edition * k
  unfolding link_at
  link-at k = omega arith

  pub flow-at : (f : ℕ) → flow_at n f ≡ flow_at n 0 + per_flow n.edition * f
  unfolding flow_at
  flow-at f = omega arith

  pub tunnel-at : (t : ℕ) → tunnel_at n t ≡ tunnel_at n 0 + 4 * t
  unfolding tunnel_at
  tunnel-at t = omega arith

  pub flows-follow : flow_at n 0 ≡ link_at n n.links
  unfolding flow_at
  flows-follow = omega arith

  pub tunnels-follow : tunnel_at n 0 ≡ flow_at n n.flows
  unfolding tunnel_at
  tunnels-follow = omega arith

  -- where the flows' and the tunnels' numbers begin, by how many there are before
  pub flows-start : flow_at n 0 ≡ link_at n 0 + per_link n.edition * n.links
  flows-start = omega (arith, flows-follow, link-at n.links)

  pub tunnels-start : tunnel_at n 0 ≡ flow_at n 0 + per_flow n.edition * n.flows
  tunnels-start = omega (arith, tunnels-follow, flow-at n.flows)

  -- all of them stand after the head
  pub link-after : (k : ℕ) → link_at n 0 ≤ link_at n k
  link-after k = omega (arith, link-at k)

  pub flow-after : (f : ℕ) → link_at n 0 ≤ flow_at n f
  flow-after f = omega (arith, flow-at f, flows-start)

  pub tunnel-after : (t : ℕ) → link_at n 0 ≤ tunnel_at n t
  tunnel-after t = omega (arith, tunnel-at t, tunnels-start, flows-start)

  pub head-size : link_at n 0 ≡ head_size n.edition
  unfolding link_at
  head-size = omega arith

  pub head-least : 6 ≤ link_at n 0
  head-least = omega (arith, head-size, head-low n.edition)

  -- no network's list is longer
  pub most-network : Limited n → network_size n ≤ most_network
  unfolding most_network
  most-network h =
      omega (arith, head-high n.edition, tunnel-at n.tunnels, tunnels-start, flows-start, head-size, mul-le-mul (link-most n.edition) h.links, mul-le-mul (flow-most n.edition) h.flows)

  -- nor is any run of its numbers
  module _ (h : Limited n) where
    pub links-few : (k : ℕ) → k ≤ n.links → per_link n.edition * k ≤ most_numbers
    links-few k less = omega (arith, mul-le-mul (link-most n.edition) less, h.links)

    pub flows-few : (f : ℕ) → f ≤ n.flows → per_flow n.edition * f ≤ most_numbers
    flows-few f less = omega (arith, mul-le-mul (flow-most n.edition) less, h.flows)

    pub link-low : (k : ℕ) → k ≤ n.links → link_at n k ≤ most_numbers
    link-low k less = omega (arith, link-at k, mul-le-mul_left (per_link n.edition) less, flows-start, tunnels-start, tunnel-at n.tunnels, most-network h, most-in-all)

    pub flow-low : (f : ℕ) → f ≤ n.flows → flow_at n f ≤ most_numbers
    flow-low f less = omega (arith, flow-at f, mul-le-mul_left (per_flow n.edition) less, tunnels-start, tunnel-at n.tunnels, most-network h, most-in-all)

    pub tunnel-low : (t : ℕ) → t ≤ n.tunnels → tunnel_at n t ≤ most_numbers
    tunnel-low t less = omega (arith, tunnel-at t, tunnel-at n.tunnels, most-network h, most-in-all)

  pub head-most : link_at n 0 ≤ most_network
  unfolding most_network
  head-most = omega (arith, head-size, head-high n.edition)

-- ---- which number stands at i, by how far that is from where the links', the flows' or the tunnels' numbers begin

-- by the code's own `per`
stands : (per own : ℕ) → per ≡ own → 0 < own → (start : ℕ → ℕ) → ((g : ℕ) → start g ≡ start 0 + own * g) → (count m i : ℕ) → start 0 + m ≡ i → m < per * count
    → (m / per < count) × (m % per < own) × (i ≡ start (m / per) + m % per)
stands per own e some start law count m i here less =
    let pos : 0 < per = omega (arith, e) in
    let turned : m < count * per = omega arith in (
      (div-lt_iff_lt-mul pos).1 turned,
      omega (arith, mod-lt m pos, e),
      omega (arith, law (m / per), div-add-mod' m per, ap (λ (p : ℕ). p * (m / per)) e),
    )

module _ (n : Network) (per m i : ℕ) where
  pub link-stands : per ≡ per_link n.edition → link_at n 0 + m ≡ i → m < per * n.links → StandsAt n i (Link (m / per) (m % per))
  link-stands e here less = stands per _ e (link-some n.edition) (link_at n) (link-at n) n.links m i here less

  pub flow-stands : per ≡ per_flow n.edition → flow_at n 0 + m ≡ i → m < per * n.flows → StandsAt n i (Flow (m / per) (m % per))
  flow-stands e here less = stands per _ e (flow-pos n.edition) (flow_at n) (flow-at n) n.flows m i here less

pub tunnel-stands : (n : Network) (m i : ℕ) → tunnel_at n 0 + m ≡ i → m / 4 < n.tunnels → StandsAt n i (Tunnel (m / 4) (m % 4))
tunnel-stands n m i here less = (less, omega arith, omega (arith, tunnel-at n (m / 4)))

-- ---- a list is its head, then the links', the flows' and the tunnels' numbers: what holds of each holds after the head

module _ (n : Network) (P : ℕ → Type 0) (link : (k j : ℕ) → k < n.links → j < per_link n.edition → P (link_at n k + j))
    (flow : (f j : ℕ) → f < n.flows → j < per_flow n.edition → P (flow_at n f + j)) (tunnel : (t j : ℕ) → t < n.tunnels → j < 4 → P (tunnel_at n t + j)) where
  pub each_number : (i : ℕ) → link_at n 0 ≤ i → i < network_size n → P i
  each_number i h k = by-link (dec_lt i (flow_at n 0))
    where
      by-tunnel : tunnel_at n 0 ≤ i → P i
      by-tunnel g =
          let x = grouped 4 (omega arith) (tunnel_at n 0) n.tunnels i g (omega (arith, tunnel-at n n.tunnels)) in
          subst P (omega (arith, x.here, tunnel-at n x.group)) (tunnel x.group x.number x.there x.within)

      by-flow : flow_at n 0 ≤ i → Dec (i < tunnel_at n 0) → P i
      by-flow g (yes less) =
          let x = grouped (per_flow n.edition) (flow-pos n.edition) (flow_at n 0) n.flows i g (omega (arith, tunnels-start n)) in
          subst P (omega (arith, x.here, flow-at n x.group)) (flow x.group x.number x.there x.within)
      by-flow g (no more) = by-tunnel (omega arith)

      by-link : Dec (i < flow_at n 0) → P i
      by-link (yes less) =
          let x = grouped (per_link n.edition) (link-some n.edition) (link_at n 0) n.links i h (omega (arith, flows-start n)) in
          subst P (omega (arith, x.here, link-at n x.group)) (link x.group x.number x.there x.within)
      by-link (no more) = by-flow (omega arith) (dec_lt i (tunnel_at n 0))

-- ---- each number lies in the list

module _ (l : List ℕ) (size : length l ≡ network_size (network_sizes l)) where
  abbrev sizes : Network
  sizes = network_sizes l

  pub head_in : link_at sizes 0 ≤ length l
  head_in = omega (arith, size, tunnel-after sizes sizes.tunnels)

  tunnels-in : tunnel_at sizes 0 ≤ length l
  tunnels-in = omega (arith, size, tunnel-at sizes sizes.tunnels)

  pub link-in : (k j : ℕ) → k < sizes.links → j < per_link sizes.edition → link_at sizes k + j < length l
  link-in k j h g = omega (arith, link-at sizes k, before-end _ (link-some sizes.edition) k sizes.links j h g, flows-start sizes, tunnels-start sizes, tunnels-in)

  pub flow-in : (f j : ℕ) → f < sizes.flows → j < per_flow sizes.edition → flow_at sizes f + j < length l
  flow-in f j h k = omega (arith, flow-at sizes f, before-end _ (flow-pos sizes.edition) f sizes.flows j h k, tunnels-start sizes, tunnels-in)

  pub tunnel-in : (t : ℕ) → t < sizes.tunnels → tunnel_at sizes t + 3 < length l
  tunnel-in t h = omega (arith, size, tunnel-at sizes t, tunnel-at sizes sizes.tunnels)

pub short : (l : List ℕ) → Sized l → length l ≤ most_network
short l s = omega (arith, s.size, most-network (network_sizes l) s.counts)

-- ---- what code knows of a position i that it has from the sizes n of a list

-- of link k, of flow f, of the same flow up to its next, of tunnel t: `last` is the last of the numbers that may be read from there on
pub record Place (l : List ℕ) (start count : Network → ℕ) (last k i : ℕ) : Type 0 where
  pub here : i ≡ start (network_sizes l)
  pub there : k < count (network_sizes l)
  pub within : i + last < length l
  pub few : i + last < most_numbers

abbrev pub LinkPlace : List ℕ → ℕ → ℕ → Type 0
LinkPlace l k i = Place l (λ n. link_at n k) (λ n. n.links) (per_link (network_sizes l).edition - 1) k i

abbrev pub FlowPlace : List ℕ → ℕ → ℕ → Type 0
FlowPlace l f i = Place l (λ n. flow_at n f) (λ n. n.flows) 1 f i

abbrev pub NextPlace : List ℕ → ℕ → ℕ → Type 0
NextPlace l f i = Place l (λ n. flow_at n f) (λ n. n.flows) (next_in (network_sizes l).edition) f i

abbrev pub TunnelPlace : List ℕ → ℕ → ℕ → Type 0
TunnelPlace l t i = Place l (λ n. tunnel_at n t) (λ n. n.tunnels) 3 t i

module _ (l : List ℕ) (s : Sized l) (n : Network) (same : n ≡ network_sizes l) where
  place : (start count : Network → ℕ) (last k i : ℕ) → k < count n → i ≡ start n → (k < count (network_sizes l) → start (network_sizes l) + last < length l)
      → Place l start count last k i
  place start count last k i h e f =
      let there : k < count (network_sizes l) = subst (λ (m : Network). k < count m) same h in
      let here : i ≡ start (network_sizes l) = e ∙ ap start same in
      let within : i + last < length l = omega (arith, here, f there) in
      record { here = here; there = there; within = within; few = omega (arith, short l s, most-in-all) }

  pub link-place : (k i : ℕ) → k < n.links → i ≡ link_at n k → LinkPlace l k i
  link-place k i h e = place (λ m. link_at m k) (λ m. m.links) _ k i h e (λ g. link-in l s.size k _ g (omega (arith, link-some (network_sizes l).edition)))

  pub flow-place : (f i : ℕ) → f < n.flows → i ≡ flow_at n f → FlowPlace l f i
  flow-place f i h e = place (λ m. flow_at m f) (λ m. m.flows) 1 f i h e (λ g. flow-in l s.size f 1 g (flow-some (network_sizes l).edition))

  pub next_place : (f i : ℕ) → f < n.flows → i ≡ flow_at n f → NextPlace l f i
  next_place f i h e = place (λ m. flow_at m f) (λ m. m.flows) _ f i h e (λ g. flow-in l s.size f _ g (next_last (network_sizes l).edition))

  pub tunnel-place : (t i : ℕ) → t < n.tunnels → i ≡ tunnel_at n t → TunnelPlace l t i
  tunnel-place t i h e = place (λ m. tunnel_at m t) (λ m. m.tunnels) 3 t i h e (tunnel-in l s.size t)

  pub limited : Limited n
  limited = subst⁻¹ Limited same s.counts

-- ---- each row of a plan lies in its list, and no plan's list is longer than the longest

module _ (l : List ℕ) (g : GoodPlan l) where
  pub row-in : (a : ℕ) → 1 ≤ a → a < (plan_sizes l).steps → row_at (plan_sizes l) a + (plan_sizes l).tunnels ≤ length l
  row-in a h k =
      let up : (a - 1) + 1 ≤ (plan_sizes l).steps - 1 = omega arith in
      omega (arith, mul-le-mul_right (plan_sizes l).tunnels up, g.size)

  pub short-plan : length l ≤ most_plan
  short-plan =
      let s : (plan_sizes l).steps - 1 ≤ most_steps - 1 = omega (arith, g.steps) in
      omega (arith, g.size, mul-le-mul s g.tunnels)
