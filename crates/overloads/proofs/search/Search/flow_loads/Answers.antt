-- `overloads::search::Search::flow_loads` meets its contract.
use Rattle.overloads.proofs.Blocks.{flows-gather}
use Rattle.overloads.proofs.search.Search.flow_loads.Goals as goal

pub returns : goal.returns
returns c = let g = rw c.network.ensures.value at c.gather_flows.ensures in
    flows-gather _ _ _ c.network.ensures.checkable _ c.requires.0 _ _ c.row_amounts.ensures g.loads_within (rw c.times_widened.ensures at g.flow_loads)
