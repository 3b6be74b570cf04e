-- `link_sums::by_flow::split_flows` meets its contract: each table has those of the flows passed that it is for.
use Rattle.lists.specs.Lists.{network_of}
use Rattle.link_sums.specs.Tables.{Split}
use Rattle.link_sums.proofs.by_flow.split_flows.Given as goal

abbrev pub invariant-loop-flow : goal.invariant-loop-flow
invariant-loop-flow l = Split (network_of l.chains) l.flow l.tables
