-- `page::blocks::capacity` meets its contract: what is held of a link is no more than its capacity.
use Prim.Native.Nat.{ℕ, ◌-◌, ◌<◌, ◌≤◌}
use mathlib.Core.Path.{◌≡◌, ap, ◌∙◌, subst⁻¹}
use mathlib.Core.List.{List}
use native.Mathlib.Omega.{arith}
use Rattle.model.specs.Limits.{most_amount}
use Rattle.lists.specs.Lists.{at, network_sizes, network_of}
use Rattle.lists.proofs.Positions.{LinkPlace}
use Rattle.amounts.proofs.Good.{in_parts}
use Rattle.amounts.proofs.Left.{place-asked, held-asked, stands, cap-low, held-low, left-is}
use Rattle.page.proofs.blocks.capacity.Goals as goal
use Rattle.page.proofs.blocks.capacity.Goals.{After-link_at, After-held}

-- what is known of a list holds of the one that is read
own : (s t : List ℕ) (l : ℕ) → s ≡ t → l < (network_sizes t).links → l < (network_sizes s).links
own s t l e h = subst⁻¹ (λ (m : List ℕ). l < (network_sizes m).links) e h

place : (c : After-link_at) → LinkPlace c.numbers-list.result.now c.args.l c.link_at.result
place c = stands _ _ c.numbers-list.ensures.numbers c.sizes-sizes.ensures.good _ c.sizes-sizes.ensures.sizes _ (own _ _ _ c.network-network.ensures.value c.requires) _ c.link_at.ensures

low : (c : After-held) → c.held.result ≤ at c.numbers-list.result.now c.link_at.result
low c = held-low _ _ c.numbers-list.ensures.numbers c.sizes-sizes.ensures.good _ c.sizes-sizes.ensures.sizes _ (own _ _ _ c.network-network.ensures.value c.requires) _ c.link_at.ensures _ c.held.ensures

left : (c : After-held) → at c.numbers-list.result.now c.link_at.result - c.held.result ≡ (network_of c.args.pair.now.network).cap c.args.l
left c =
    left-is _ _ c.numbers-list.ensures.numbers c.sizes-sizes.ensures.good _ c.sizes-sizes.ensures.sizes _ (own _ _ _ c.network-network.ensures.value c.requires) _ c.link_at.ensures _ c.held.ensures
    ∙ ap (λ (s : List ℕ). (network_of s).cap c.args.l) c.network-network.ensures.value

most : (c : After-link_at) → at c.numbers-list.result.now c.link_at.result ≤ most_amount
most c = cap-low _ _ c.numbers-list.ensures.numbers c.sizes-sizes.ensures.good _ c.sizes-sizes.ensures.sizes _ (own _ _ _ c.network-network.ensures.value c.requires) _ c.link_at.ensures

pub link_at-requires : goal.link_at-requires
link_at-requires c = place-asked _ _ c.numbers-list.ensures.numbers c.sizes-sizes.ensures.good _ c.sizes-sizes.ensures.sizes _ (own _ _ _ c.network-network.ensures.value c.requires)

pub offset_bounds-list-link_at : goal.offset_bounds-list-link_at
offset_bounds-list-link_at c = omega (arith, (place ((goal.at.offset_bounds-list-link_at c).After-link_at)).few)

pub bounds-list-link_at : goal.bounds-list-link_at
bounds-list-link_at c = omega (arith, (place ((goal.at.bounds-list-link_at c).After-link_at)).within)

pub held-requires : goal.held-requires
held-requires c = held-asked _ _ c.numbers-list.ensures.numbers c.sizes-sizes.ensures.good _ c.sizes-sizes.ensures.sizes _ (own _ _ _ c.network-network.ensures.value c.requires)

pub overflow_sub-left : goal.overflow_sub-left
overflow_sub-left c = omega (arith, low ((goal.at.overflow_sub-left c).After-held))

pub overflow_mul-result : goal.overflow_mul-result
overflow_mul-result c =
    let k = (goal.at.overflow_mul-result c).After-link_at in
    let m : at c.numbers-list.result.now c.link_at.result - c.held.result ≤ most_amount = omega (arith, most k) in
    omega (arith, in_parts c.parts-parts.result _ c.parts-parts.ensures.some.1 m, in_parts c.parts-parts.result _ c.parts-parts.ensures.some.1 (most k))

pub returns : goal.returns
returns c = grind (arith, left ((goal.at.returns c).After-held), c.network-network.ensures.value, c.plan.ensures.value, c.parts-parts.ensures.value)
