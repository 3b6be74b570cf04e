-- `judges::ranges::links_in` meets its contract.
use Prim.Native.Nat.{ℕ, ◌+◌, ◌-◌}
use mathlib.Core.Path.{◌≡◌, ap}
use mathlib.Core.List.{List}
use Rattle.lists.specs.Lists.{at, per_link, network_sizes, link_at}
use Rattle.lists.specs.declared.Network.{Network}
use Rattle.lists.proofs.Positions.{link-some, LinkPlace, link-place, limited}
use Rattle.lists.proofs.Held.{last-held, held-last}
use Rattle.judges.proofs.InRange.{links-more, decides-yes, decides-no}
use native.Mathlib.Omega.{arith}
use Rattle.judges.proofs.ranges.links_in.Goals as goal
use Rattle.judges.proofs.ranges.links_in.Goals.{After-link_at-at}

module _ (c : After-link_at-at) where
  abbrev list : List ℕ
  list = c.args.list.now

  abbrev k : ℕ
  k = c.loop-k.k

  abbrev last : ℕ
  last = c.per_link-last.result - 1

  place : LinkPlace list k c.link_at-at.result
  place = link-place _ c.requires.0 _ c.requires.1 _ _ c.loop-k-test.true c.link_at-at.ensures

  cap-at : at list c.link_at-at.result ≡ at list (link_at (network_sizes list) k)
  cap-at = ap (at list) place.here

  last-at : at list (c.link_at-at.result + last) ≡ at list (link_at (network_sizes list) k + last)
  last-at = ap (λ (i : ℕ). at list (i + last)) place.here

  is_last : last ≡ per_link (network_sizes list).edition - 1
  is_last = omega (arith, c.per_link-last.ensures, ap (λ (n : Network). per_link n.edition) c.requires.1)

pub overflow_sub-last : goal.overflow_sub-last
overflow_sub-last c = omega (arith, c.per_link-last.ensures, link-some c.args.sizes.edition)

pub link_at-at-requires : goal.link_at-at-requires
link_at-at-requires c = (limited _ c.requires.0 _ c.requires.1, omega (arith, c.loop-k-test.true))

pub offset_bounds-list-at : goal.offset_bounds-list-at
offset_bounds-list-at c = omega (arith, (place c).few)

pub bounds-list-at : goal.bounds-list-at
bounds-list-at c = omega (arith, (place ((goal.at.bounds-list-at c).After-link_at-at)).within)

pub returns-then-list-at-gt-AMOUNT : goal.returns-then-list-at-gt-AMOUNT
returns-then-list-at-gt-AMOUNT c = decides-no (λ a. absurd (omega (arith, cap-at ((goal.at.returns-then-list-at-gt-AMOUNT c).After-link_at-at), a.cap _ c.loop-k-test.true, c.if-list-at-gt-AMOUNT.true)))

pub offset_bounds-list-at-in-loop-k : goal.offset_bounds-list-at-in-loop-k
offset_bounds-list-at-in-loop-k c = omega (arith, (place ((goal.at.offset_bounds-list-at-in-loop-k c).After-link_at-at)).few)

pub bounds-list-at-in-loop-k : goal.bounds-list-at-in-loop-k
bounds-list-at-in-loop-k c = omega (arith, (place ((goal.at.bounds-list-at-in-loop-k c).After-link_at-at)).within)

pub overflow_add-at : goal.overflow_add-at
overflow_add-at c = omega (arith, (place ((goal.at.overflow_add-at c).After-link_at-at)).few, is_last ((goal.at.overflow_add-at c).After-link_at-at))

pub offset_bounds-list-at-in-loop-k-2 : goal.offset_bounds-list-at-in-loop-k-2
offset_bounds-list-at-in-loop-k-2 c = omega (arith, (place ((goal.at.offset_bounds-list-at-in-loop-k-2 c).After-link_at-at)).few, is_last ((goal.at.offset_bounds-list-at-in-loop-k-2 c).After-link_at-at))

pub bounds-list-at-in-loop-k-2 : goal.bounds-list-at-in-loop-k-2
bounds-list-at-in-loop-k-2 c = omega (arith, (place ((goal.at.bounds-list-at-in-loop-k-2 c).After-link_at-at)).within, is_last ((goal.at.bounds-list-at-in-loop-k-2 c).After-link_at-at))

pub returns-then-list-at : goal.returns-then-list-at
returns-then-list-at c = decides-no (λ a. absurd (omega (arith, cap-at ((goal.at.returns-then-list-at c).After-link_at-at), last-at ((goal.at.returns-then-list-at c).After-link_at-at), last-held c.args.list.now c.loop-k.k (last ((goal.at.returns-then-list-at c).After-link_at-at)) (is_last ((goal.at.returns-then-list-at c).After-link_at-at)) (a.held _ c.loop-k-test.true), c.if-list-at.true)))

pub loop-k-preserved : goal.loop-k-preserved
loop-k-preserved c = links-more _ _ c.loop-k.invariant (omega (arith, cap-at ((goal.at.loop-k-preserved c).After-link_at-at), c.if-list-at-gt-AMOUNT.false)) (held-last c.args.list.now c.loop-k.k (last ((goal.at.loop-k-preserved c).After-link_at-at)) (is_last ((goal.at.loop-k-preserved c).After-link_at-at)) (omega (arith, cap-at ((goal.at.loop-k-preserved c).After-link_at-at), last-at ((goal.at.loop-k-preserved c).After-link_at-at), c.if-list-at.false)))

pub returns : goal.returns
returns c = let e : c.loop-k.k ≡ c.args.sizes.links = omega (arith, c.loop-k.auto.k-end) in decides-yes (rw (← e) c.loop-k.invariant)
