-- `lists::judged::NetworkList::flow` meets its contract.
use native.Mathlib.Omega.{arith}
use Rattle.lists.proofs.Numbers.{tunnel-stands, flow-is}
use Rattle.lists.proofs.judged.NetworkList.flow.Goals as goal

pub returns-clause-value : goal.returns-clause-value
returns-clause-value c = flow-is c.self.inside.list.now c.args.self.now c.self.view_is c.args.t c.tunnel_at.result (tunnel-stands c.self.inside.list.now c.args.self.now c.self.view_is c.self.invariant.good c.self.inside.sizes c.self.invariant.sizes c.args.t c.tunnel_at.result c.requires c.tunnel_at.ensures)
