-- `overloads::search::Search::tunnel_loads` meets its contract.
use Rattle.overloads.proofs.Blocks.{widened-table, gathers}
use Rattle.overloads.proofs.search.Search.tunnel_loads.Goals as goal

pub returns : goal.returns
returns c =
    gathers _ _ _ c.network-network.ensures.checkable _ c.requires.0 c.args.self.now.lag_in.0 _ _ _ (widened-table _ _ _ _ c.larger_amounts.new.amounts.table c.widen_all.ensures) c.larger_amounts.ensures
    (rw (c.tunnels.ensures.count, c.network-network.ensures.value, c.times_widened.ensures) at c.widen_all.ensures)
    (rw c.network-network.ensures.value at c.gather_network.ensures)
