-- `lists::judged::NetworkList::cap` meets its contract.
use native.Mathlib.Omega.{arith}
use Rattle.lists.proofs.Numbers.{link-stands, cap-is}
use Rattle.lists.proofs.judged.NetworkList.cap.Goals as goal

pub offset_bounds-self-inside-link_at : goal.offset_bounds-self-inside-link_at
offset_bounds-self-inside-link_at c = let p = link-stands c.self.inside.list.now c.args.self.now c.self.view_is c.self.invariant.good c.self.inside.sizes c.self.invariant.sizes c.args.l c.link_at.result c.requires c.link_at.ensures in omega (arith, p.few)

pub bounds-self-inside-link_at : goal.bounds-self-inside-link_at
bounds-self-inside-link_at c = let p = link-stands c.self.inside.list.now c.args.self.now c.self.view_is c.self.invariant.good c.self.inside.sizes c.self.invariant.sizes c.args.l c.link_at.result c.requires c.link_at.ensures in omega (arith, p.within)

pub returns-clause-value : goal.returns-clause-value
returns-clause-value c = cap-is c.self.inside.list.now c.args.self.now c.self.view_is c.args.l c.link_at.result c.held.result c.held.ensures (link-stands c.self.inside.list.now c.args.self.now c.self.view_is c.self.invariant.good c.self.inside.sizes c.self.invariant.sizes c.args.l c.link_at.result c.requires c.link_at.ensures)
