-- `lists::judged::NetworkList::flows` meets its contract.
use Rattle.lists.proofs.Numbers.{flows-is}
use Rattle.lists.proofs.judged.NetworkList.flows.Goals as goal

pub returns-clause-value : goal.returns-clause-value
returns-clause-value c = flows-is c.self.inside.list.now c.args.self.now c.self.view_is c.self.inside.sizes c.self.invariant.sizes
