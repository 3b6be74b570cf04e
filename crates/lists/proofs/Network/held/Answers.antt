-- `lists::Network::held` meets its contract.
use Prim.Native.Nat.{ℕ, ◌+◌, ◌<◌}
use mathlib.Core.Path.{◌≡◌, sym, ap, ◌∙◌}
use mathlib.Core.Bool.{true}
use lib.ListN.{length}
use Rattle.lists.specs.declared.Network.{Network}
use Rattle.lists.specs.Lists.{at, has_held, network_sizes}
use Rattle.lists.proofs.Positions.{link-place, LinkPlace, limited}
use Rattle.lists.proofs.Held.{with-held, without-held, held_in}
use native.Mathlib.Omega.{arith}
use Rattle.lists.proofs.Network.held.Goals as goal
use Rattle.lists.proofs.Network.held.Goals.{After-link_at}

module _ (c : After-link_at) where
  place : LinkPlace c.args.list.now c.args.k c.link_at.result
  place = link-place _ c.requires.1.sized _ c.requires.0 _ _ c.requires.2 c.link_at.ensures

  held : has_held (network_sizes c.args.list.now).edition ≡ true
  held = ap (λ (n : Network). has_held n.edition) (sym c.requires.0) ∙ sym c.has_held.ensures ∙ c.if-has_held.true

  within : c.link_at.result + 1 < length c.args.list.now
  within = omega (arith, place.here, held_in _ _ c.requires.1 held place.there)

pub link_at-requires : goal.link_at-requires
link_at-requires c = (limited _ c.requires.1.sized _ c.requires.0, omega (arith, c.requires.2))

pub overflow_add-result : goal.overflow_add-result
overflow_add-result c = omega (arith, (place c).few)

pub offset_bounds-list-link_at : goal.offset_bounds-list-link_at
offset_bounds-list-link_at c = omega (arith, (place c).few)

pub bounds-list-link_at : goal.bounds-list-link_at
bounds-list-link_at c = within ((goal.at.bounds-list-link_at c).After-link_at)

pub returns-then-has_held : goal.returns-then-has_held
returns-then-has_held c = ap (λ (i : ℕ). at c.args.list.now (i + 1)) (place ((goal.at.returns-then-has_held c).After-link_at)).here ∙ sym (with-held _ _ (held ((goal.at.returns-then-has_held c).After-link_at)))

pub returns : goal.returns
returns c = sym (without-held c.args.list.now c.args.k (ap (λ (n : Network). has_held n.edition) (sym c.requires.0) ∙ sym c.has_held.ensures ∙ c.if-has_held.false))
