-- `lists::judged::NetworkList::next` meets its contract.
use native.Mathlib.Omega.{arith}
use mathlib.Core.Path.{ap, ◌∙◌}
use Rattle.lists.specs.Lists.{next_in}
use Rattle.lists.specs.declared.Network.{Network}
use Rattle.lists.proofs.Numbers.{next-stands, next-is}
use Rattle.lists.proofs.judged.NetworkList.next.Goals as goal

pub overflow_add-result : goal.overflow_add-result
overflow_add-result c = let p = next-stands c.self.inside.list.now c.args.self.now c.self.view_is c.self.invariant.good c.self.inside.sizes c.self.invariant.sizes c.args.f c.flow_at.result c.requires c.flow_at.ensures in omega (arith, p.few, (c.next.ensures ∙ ap (λ (m : Network). next_in m.edition) c.self.invariant.sizes))

pub offset_bounds-self-inside-flow_at : goal.offset_bounds-self-inside-flow_at
offset_bounds-self-inside-flow_at c = let p = next-stands c.self.inside.list.now c.args.self.now c.self.view_is c.self.invariant.good c.self.inside.sizes c.self.invariant.sizes c.args.f c.flow_at.result c.requires c.flow_at.ensures in omega (arith, p.few, (c.next.ensures ∙ ap (λ (m : Network). next_in m.edition) c.self.invariant.sizes))

pub bounds-self-inside-flow_at : goal.bounds-self-inside-flow_at
bounds-self-inside-flow_at c = let p = next-stands c.self.inside.list.now c.args.self.now c.self.view_is c.self.invariant.good c.self.inside.sizes c.self.invariant.sizes c.args.f c.flow_at.result c.requires c.flow_at.ensures in omega (arith, p.within, (c.next.ensures ∙ ap (λ (m : Network). next_in m.edition) c.self.invariant.sizes))

pub returns-clause-value : goal.returns-clause-value
returns-clause-value c = next-is c.self.inside.list.now c.args.self.now c.self.view_is c.args.f c.flow_at.result c.next.result (c.next.ensures ∙ ap (λ (m : Network). next_in m.edition) c.self.invariant.sizes) (next-stands c.self.inside.list.now c.args.self.now c.self.view_is c.self.invariant.good c.self.inside.sizes c.self.invariant.sizes c.args.f c.flow_at.result c.requires c.flow_at.ensures)
