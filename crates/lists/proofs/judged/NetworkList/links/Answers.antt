-- `lists::judged::NetworkList::links` meets its contract.
use Rattle.lists.proofs.Numbers.{links-is}
use Rattle.lists.proofs.judged.NetworkList.links.Goals as goal

pub returns-clause-value : goal.returns-clause-value
returns-clause-value c = links-is c.self.inside.list.now c.args.self.now c.self.view_is c.self.inside.sizes c.self.invariant.sizes
