-- `lists::judged::NetworkList::rate` meets its contract.
use native.Mathlib.Omega.{arith}
use Rattle.lists.proofs.Numbers.{flow-stands, rate-is}
use Rattle.lists.proofs.judged.NetworkList.rate.Goals as goal

pub overflow_add-result : goal.overflow_add-result
overflow_add-result c = let p = flow-stands c.self.inside.list.now c.args.self.now c.self.view_is c.self.invariant.good c.self.inside.sizes c.self.invariant.sizes c.args.f c.flow_at.result c.requires c.flow_at.ensures in omega (arith, p.few)

pub offset_bounds-self-inside-flow_at : goal.offset_bounds-self-inside-flow_at
offset_bounds-self-inside-flow_at c = let p = flow-stands c.self.inside.list.now c.args.self.now c.self.view_is c.self.invariant.good c.self.inside.sizes c.self.invariant.sizes c.args.f c.flow_at.result c.requires c.flow_at.ensures in omega (arith, p.few)

pub bounds-self-inside-flow_at : goal.bounds-self-inside-flow_at
bounds-self-inside-flow_at c = let p = flow-stands c.self.inside.list.now c.args.self.now c.self.view_is c.self.invariant.good c.self.inside.sizes c.self.invariant.sizes c.args.f c.flow_at.result c.requires c.flow_at.ensures in omega (arith, p.within)

pub returns-clause-value : goal.returns-clause-value
returns-clause-value c = rate-is c.self.inside.list.now c.args.self.now c.self.view_is c.args.f c.flow_at.result (flow-stands c.self.inside.list.now c.args.self.now c.self.view_is c.self.invariant.good c.self.inside.sizes c.self.invariant.sizes c.args.f c.flow_at.result c.requires c.flow_at.ensures)
