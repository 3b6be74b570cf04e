-- `planner::steps::capacity` meets its contract: what is held of a link is no more than its capacity.
use Prim.Native.Nat.{◌-◌, ◌≤◌}
use mathlib.Core.Path.{◌≡◌}
use native.Mathlib.Omega.{arith}
use Rattle.model.specs.Limits.{most_amount}
use Rattle.lists.specs.Lists.{at, network_of}
use Rattle.lists.proofs.Positions.{LinkPlace}
use Rattle.planner.proofs.Left.{place-asked, held-asked, stands, cap-low, held-low, left-is}
use Rattle.planner.proofs.steps.capacity.Goals as goal
use Rattle.planner.proofs.steps.capacity.Goals.{After-link_at, After-held}

place : (c : After-link_at) → LinkPlace c.numbers-list.result.now c.args.link c.link_at.result
place c = stands _ _ c.numbers-list.ensures.numbers c.sizes-sizes.ensures.good _ c.sizes-sizes.ensures.sizes _ c.requires _ c.link_at.ensures

low : (c : After-held) → c.held.result ≤ at c.numbers-list.result.now c.link_at.result
low c = held-low _ _ c.numbers-list.ensures.numbers c.sizes-sizes.ensures.good _ c.sizes-sizes.ensures.sizes _ c.requires _ c.link_at.ensures _ c.held.ensures

left : (c : After-held) → at c.numbers-list.result.now c.link_at.result - c.held.result ≡ (network_of c.args.network.now).cap c.args.link
left c = left-is _ _ c.numbers-list.ensures.numbers c.sizes-sizes.ensures.good _ c.sizes-sizes.ensures.sizes _ c.requires _ c.link_at.ensures _ c.held.ensures

most : (c : After-held) → at c.numbers-list.result.now c.link_at.result ≤ most_amount
most c = cap-low _ _ c.numbers-list.ensures.numbers c.sizes-sizes.ensures.good _ c.sizes-sizes.ensures.sizes _ c.requires _ c.link_at.ensures

pub link_at-requires : goal.link_at-requires
link_at-requires c = place-asked _ _ c.numbers-list.ensures.numbers c.sizes-sizes.ensures.good _ c.sizes-sizes.ensures.sizes _ c.requires

pub offset_bounds-list-link_at : goal.offset_bounds-list-link_at
offset_bounds-list-link_at c = omega (arith, (place ((goal.at.offset_bounds-list-link_at c).After-link_at)).few)

pub bounds-list-link_at : goal.bounds-list-link_at
bounds-list-link_at c = omega (arith, (place ((goal.at.bounds-list-link_at c).After-link_at)).within)

pub held-requires : goal.held-requires
held-requires c = held-asked _ _ c.numbers-list.ensures.numbers c.sizes-sizes.ensures.good _ c.sizes-sizes.ensures.sizes _ c.requires

pub overflow_sub-result : goal.overflow_sub-result
overflow_sub-result c = omega (arith, low ((goal.at.overflow_sub-result c).After-held))

pub returns-clause-value : goal.returns-clause-value
returns-clause-value c = omega (arith, left ((goal.at.returns-clause-value c).After-held), low ((goal.at.returns-clause-value c).After-held))

pub returns-clause-most : goal.returns-clause-most
returns-clause-most c = omega (arith, most ((goal.at.returns-clause-most c).After-held))
