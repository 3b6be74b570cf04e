-- `link_sums::by_tunnel::split_tunnels` meets its contract: each table has those of the tunnels passed that it is for.
use Rattle.lists.specs.Lists.{network_of}
use Rattle.link_sums.specs.Tables.{Split}
use Rattle.link_sums.proofs.by_tunnel.split_tunnels.Given as goal

abbrev pub invariant-loop-t : goal.invariant-loop-t
invariant-loop-t l = Split (network_of l.network) l.t l.tables
