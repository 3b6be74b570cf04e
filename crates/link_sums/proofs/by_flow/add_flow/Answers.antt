-- `link_sums::by_flow::add_flow` meets its contract: by the flow's sums on the links that its tunnels cross.
use Rattle.link_sums.proofs.Flows.{with-flow}
use Rattle.link_sums.proofs.by_flow.add_flow.Goals as goal

pub returns : goal.returns
returns c = with-flow _ c.requires.by_flow _ _ _ c.sum_flow-crossed.ensures.sums c.sum_flow-crossed.ensures.outside _ _ c.add_sums.ensures
