-- `loads::flows::chain_sums` meets its contract.
use Rattle.lists.specs.Lists.{network_of}
use Rattle.loads.specs.Flows.{chain_end}
use Rattle.loads.proofs.Chains.{Walking}
use Rattle.loads.proofs.flows.chain_sums.Given as goal

abbrev pub invariant-loop-from : goal.invariant-loop-from
invariant-loop-from l = Walking (network_of l.network).links (network_of l.network).via l.prior (chain_end l.fn.last) l.amounts.numbers (chain_end l.from) l.set l.sums

abbrev pub decreases-loop-from : goal.decreases-loop-from
decreases-loop-from l = chain_end l.from
