-- `amounts::columns::Bounds::in_parts` meets its contract: what is held of a link is no more than its capacity.
use Prim.Native.Nat.{ℕ, ◌-◌, ◌*◌, ◌≤◌}
use mathlib.Core.Path.{◌≡◌}
use native.Mathlib.Omega.{arith}
use Rattle.model.specs.Limits.{most_steps, most_amount}
use Rattle.lists.specs.Lists.{at, network_of}
use Rattle.lists.proofs.Positions.{LinkPlace}
use Rattle.amounts.proofs.Good.{in_parts}
use Rattle.amounts.proofs.Left.{place-asked, held-asked, stands, cap-low, held-low, left-is}
use Rattle.amounts.proofs.columns.Bounds.in_parts.Goals as goal
use Rattle.amounts.proofs.columns.Bounds.in_parts.Goals.{After-link_at, After-held}

place : (c : After-link_at) → LinkPlace c.numbers-list.result.now c.args.l c.link_at.result
place c = stands _ _ c.numbers-list.ensures.numbers c.sizes-sizes.ensures.good _ c.sizes-sizes.ensures.sizes _ c.requires.1 _ c.link_at.ensures

low : (c : After-held) → c.held.result ≤ at c.numbers-list.result.now c.link_at.result
low c = held-low _ _ c.numbers-list.ensures.numbers c.sizes-sizes.ensures.good _ c.sizes-sizes.ensures.sizes _ c.requires.1 _ c.link_at.ensures _ c.held.ensures

left : (c : After-held) → at c.numbers-list.result.now c.link_at.result - c.held.result ≡ (network_of c.args.network.now).cap c.args.l
left c = left-is _ _ c.numbers-list.ensures.numbers c.sizes-sizes.ensures.good _ c.sizes-sizes.ensures.sizes _ c.requires.1 _ c.link_at.ensures _ c.held.ensures

most : (c : After-link_at) → at c.numbers-list.result.now c.link_at.result ≤ most_amount
most c = cap-low _ _ c.numbers-list.ensures.numbers c.sizes-sizes.ensures.good _ c.sizes-sizes.ensures.sizes _ c.requires.1 _ c.link_at.ensures

pub link_at-requires : goal.link_at-requires
link_at-requires c = place-asked _ _ c.numbers-list.ensures.numbers c.sizes-sizes.ensures.good _ c.sizes-sizes.ensures.sizes _ c.requires.1

pub offset_bounds-list-link_at : goal.offset_bounds-list-link_at
offset_bounds-list-link_at c = omega (arith, (place ((goal.at.offset_bounds-list-link_at c).After-link_at)).few)

pub bounds-list-link_at : goal.bounds-list-link_at
bounds-list-link_at c = omega (arith, (place ((goal.at.bounds-list-link_at c).After-link_at)).within)

pub held-requires : goal.held-requires
held-requires c = held-asked _ _ c.numbers-list.ensures.numbers c.sizes-sizes.ensures.good _ c.sizes-sizes.ensures.sizes _ c.requires.1

pub overflow_sub-left : goal.overflow_sub-left
overflow_sub-left c = omega (arith, low ((goal.at.overflow_sub-left c).After-held))

pub returns : goal.returns
returns c = grind (arith, left ((goal.at.returns c).After-held), c.overrun-times.ensures.value)
