-- `lengths::network_needed` meets its contract.
use Prim.Native.Nat.{ℕ, ◌+◌, ◌*◌, ◌≤◌, ◌<◌}
use mathlib.Core.Path.{◌≡◌, ap, ◌∙◌}
use mathlib.Core.List.{List}
use native.Mathlib.Nat.{le_trans, mul-le-mul}
use native.Mathlib.Omega.{arith}
use lib.ListN.{length, get_or, take}
use lib.Seq.{length-take-le, get_or-take}
use Rattle.model.specs.Limits.{most_links, most_flows}
use Rattle.lists.specs.Lists.{network_sizes, tunnel_at, most_numbers}
use Rattle.lists.specs.Good.{Limited}
use Rattle.lists.specs.declared.Network as counts
use Rattle.lists.proofs.Positions.{limited, short, most-in-all, tunnel-at}
use Rattle.forms.specs.Write.{render}
use Rattle.forms.specs.declared.form.Form.TheVariants.{Network}
use Rattle.forms.proofs.Rendering.{render-short}
use Rattle.lengths.specs.Lines.{widths_of, head_bytes, link_bytes, flow_bytes}
use Rattle.lengths.proofs.Measuring.{head-bytes-most, link-bytes-most, flow-bytes-most, widths-first, network-length, network-number}
use Rattle.lengths.proofs.network_needed.Goals as goal
use Rattle.lengths.proofs.network_needed.Goals.{After-flow_bytes, After-link_bytes, After-sizes-sizes, After-head_bytes-head, After-tunnel_at}

bound : (c : After-sizes-sizes) → Limited c.sizes-sizes.result
bound c = limited _ c.sizes-sizes.ensures.good.ranges.sized _ c.sizes-sizes.ensures.sizes

-- what is not a digit of the head's lines, of the links' and of the flows'
head-most : (c : After-head_bytes-head) → c.head_bytes-head.result ≤ 52
head-most c = omega (arith, c.head_bytes-head.ensures, head-bytes-most c.sizes-sizes.result.edition)

links-most : (c : After-link_bytes) → c.link_bytes.result * c.sizes-sizes.result.links ≤ 11 * most_links
links-most c =
    let few : c.link_bytes.result ≤ 11 = omega (arith, c.link_bytes.ensures, link-bytes-most c.sizes-sizes.result.edition) in
    mul-le-mul few (limited _ c.sizes-sizes.ensures.good.ranges.sized _ c.sizes-sizes.ensures.sizes).links

flows-most : (c : After-flow_bytes) → c.flow_bytes.result * c.sizes-sizes.result.flows ≤ 19 * most_flows
flows-most c =
    let few : c.flow_bytes.result ≤ 19 = omega (arith, c.flow_bytes.ensures, flow-bytes-most c.sizes-sizes.result.edition) in
    mul-le-mul few (limited _ c.sizes-sizes.ensures.good.ranges.sized _ c.sizes-sizes.ensures.sizes).flows

-- the numbers before those of the tunnels
module _ (c : After-tunnel_at) where
  abbrev list : List ℕ
  list = c.args.network.now

  first : c.tunnel_at.result ≡ tunnel_at (network_sizes list) 0
  first = c.tunnel_at.ensures ∙ ap (λ (n : counts.Network). tunnel_at n 0) c.sizes-sizes.ensures.sizes

  within : c.tunnel_at.result ≤ length list
  within = let n = network_sizes list in omega (arith, first, c.sizes-sizes.ensures.good.ranges.sized.size, tunnel-at n n.tunnels)

  long : length (take c.tunnel_at.result list) ≡ c.tunnel_at.result
  long = length-take-le _ list within

  few : length (take c.tunnel_at.result c.numbers-list.result.now) ≤ most_numbers
  few = rw c.numbers-list.ensures.numbers (omega (arith, long, within, short _ c.sizes-sizes.ensures.good.ranges.sized, most-in-all))

pub returns-then-room-ge-BYTES : goal.returns-then-room-ge-BYTES
returns-then-room-ge-BYTES c = record { short = λ h. absurd (omega arith); fits = λ h. le_trans (render-short Network c.args.network.now c.requires) c.if-room-ge-BYTES.true }

pub overflow_mul-links : goal.overflow_mul-links
overflow_mul-links c = omega (arith, links-most ((goal.at.overflow_mul-links c).After-link_bytes))

pub overflow_mul-flows : goal.overflow_mul-flows
overflow_mul-flows c = omega (arith, flows-most ((goal.at.overflow_mul-flows c).After-flow_bytes))

pub widths-digits-requires-clause-few : goal.widths-digits-requires-clause-few
widths-digits-requires-clause-few c = few c

pub widths-digits-requires-clause-small : goal.widths-digits-requires-clause-small
widths-digits-requires-clause-small c =
    rw c.numbers-list.ensures.numbers
    (λ i h. let k : i < c.tunnel_at.result = omega (arith, long c) in
    rw (get_or-take _ c.args.network.now i 0 k) (network-number _ c.sizes-sizes.ensures.good c.requires i (omega (arith, first c))).small)

pub overflow_add-result : goal.overflow_add-result
overflow_add-result c = let p = goal.at.overflow_add-result c in omega (arith, head-most p.After-head_bytes-head, links-most p.After-link_bytes)

pub overflow_add-result-2 : goal.overflow_add-result-2
overflow_add-result-2 c = let p = goal.at.overflow_add-result-2 c in omega (arith, head-most p.After-head_bytes-head, links-most p.After-link_bytes, flows-most p.After-flow_bytes)

pub overflow_add-result-3 : goal.overflow_add-result-3
overflow_add-result-3 c = let p = goal.at.overflow_add-result-3 c in omega (arith, head-most p.After-head_bytes-head, links-most p.After-link_bytes, flows-most p.After-flow_bytes, bound p.After-sizes-sizes)

pub overflow_add-result-4 : goal.overflow_add-result-4
overflow_add-result-4 c =
    let p = goal.at.overflow_add-result-4 c in
    omega (arith, head-most p.After-head_bytes-head, links-most p.After-link_bytes, flows-most p.After-flow_bytes, bound p.After-sizes-sizes, few p.After-tunnel_at, c.widths-digits.ensures.1)

pub overflow_add-result-5 : goal.overflow_add-result-5
overflow_add-result-5 c =
    let p = goal.at.overflow_add-result-5 c in
    omega (
      arith,
      head-most p.After-head_bytes-head,
      links-most p.After-link_bytes,
      flows-most p.After-flow_bytes,
      bound p.After-sizes-sizes,
      few p.After-tunnel_at,
      c.widths-digits.ensures.1,
      c.tunnel_widths.ensures.1,
      c.sizes-sizes.ensures.good.ranges.sized.counts,
    )

-- the edition that the sizes have is the list's
same-edition : (c : After-sizes-sizes) → c.sizes-sizes.result.edition ≡ get_or c.args.network.now 0 0
unfolding network_sizes
same-edition c = ap (λ (n : counts.Network). n.edition) c.sizes-sizes.ensures.sizes

pub returns : goal.returns
returns c =
    let p = goal.at.returns c in
    let l = c.args.network.now in
    let n = c.tunnel_at.result in
    let e = c.sizes-sizes.ensures.sizes in
    let digits = c.widths-digits.ensures.0 ∙ ap (λ (k : List ℕ). widths_of (take n k) (length (take n k))) c.numbers-list.ensures.numbers
    ∙ widths-first l n (within p.After-tunnel_at) ∙ ap (widths_of l) (first p.After-tunnel_at) in
    let m : c.head_bytes-head.result + c.link_bytes.result * c.sizes-sizes.result.links + c.flow_bytes.result * c.sizes-sizes.result.flows
    + 37 * c.sizes-sizes.result.tunnels + c.widths-digits.result + c.tunnel_widths.result ≡ length (render Network l)
    = omega (
      arith,
      network-length l c.sizes-sizes.ensures.good c.requires,
      digits,
      c.tunnel_widths.ensures.0,
      c.head_bytes-head.ensures ∙ ap head_bytes (same-edition p.After-sizes-sizes),
      ap (λ (b : ℕ). b * c.sizes-sizes.result.links) c.link_bytes.ensures ∙ ap (λ (s : counts.Network). link_bytes s.edition * s.links) e,
      ap (λ (b : ℕ). b * c.sizes-sizes.result.flows) c.flow_bytes.ensures ∙ ap (λ (s : counts.Network). flow_bytes s.edition * s.flows) e,
      ap (λ (s : counts.Network). s.tunnels) e,
    ) in
    record { short = λ h. m; fits = λ h. omega (arith, m) }
