-- `link_sums::by_flow::sum_flow` meets its contract: what is added, with what the rest of the chain has, is the flow's sum.
use Rattle.lists.specs.Lists.{network_of}
use Rattle.link_sums.specs.Tables.{up_to, NoneOutside}
use Rattle.link_sums.proofs.Flows.{Left}
use Rattle.link_sums.proofs.by_flow.sum_flow.Given as goal

abbrev pub invariant-loop-entry : goal.invariant-loop-entry
invariant-loop-entry l = record {
  left : Left (network_of l.chains) l.flow l.entry l.sums;
  outside : NoneOutside l.crossed l.sums;
}

abbrev pub decreases-loop-entry : goal.decreases-loop-entry
decreases-loop-entry l = up_to l.entry
