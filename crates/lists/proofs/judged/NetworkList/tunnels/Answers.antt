-- `lists::judged::NetworkList::tunnels` meets its contract.
use Rattle.lists.proofs.Numbers.{tunnels-is}
use Rattle.lists.proofs.judged.NetworkList.tunnels.Goals as goal

pub returns-clause-value : goal.returns-clause-value
returns-clause-value c = tunnels-is c.self.inside.list.now c.args.self.now c.self.view_is c.self.inside.sizes c.self.invariant.sizes
