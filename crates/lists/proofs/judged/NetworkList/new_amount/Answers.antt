-- `lists::judged::NetworkList::new_amount` meets its contract.
use native.Mathlib.Omega.{arith}
use Rattle.lists.proofs.Numbers.{tunnel-stands, new-is}
use Rattle.lists.proofs.judged.NetworkList.new_amount.Goals as goal

pub bounds-self-inside-tunnel_at : goal.bounds-self-inside-tunnel_at
bounds-self-inside-tunnel_at c = let p = tunnel-stands c.self.inside.list.now c.args.self.now c.self.view_is c.self.invariant.good c.self.inside.sizes c.self.invariant.sizes c.args.t c.tunnel_at.result c.requires c.tunnel_at.ensures in omega (arith, p.within)

pub returns-clause-value : goal.returns-clause-value
returns-clause-value c = new-is c.self.inside.list.now c.args.self.now c.self.view_is c.args.t c.tunnel_at.result (tunnel-stands c.self.inside.list.now c.args.self.now c.self.view_is c.self.invariant.good c.self.inside.sizes c.self.invariant.sizes c.args.t c.tunnel_at.result c.requires c.tunnel_at.ensures)
