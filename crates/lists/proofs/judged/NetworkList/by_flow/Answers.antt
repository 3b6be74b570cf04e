-- `lists::judged::NetworkList::by_flow` meets its contract.
use Rattle.lists.proofs.Positions.{head_in}
use mathlib.Core.Path.{ap, ◌∙◌}
use Rattle.model.specs.Rule.{by_flow}
use Rattle.lists.specs.Lists.{network_of}
use Rattle.lists.proofs.judged.NetworkList.by_flow.Goals as goal

pub by_flow-requires : goal.by_flow-requires
by_flow-requires c = head_in _ c.self.invariant.good.ranges.sized.size
