-- `link_sums::chains::Chains::of` meets its contract: the tunnels passed are chained.
use Rattle.lists.specs.Lists.{network_of}
use Rattle.link_sums.specs.Tables.{Chained}
use Rattle.link_sums.proofs.chains.Chains.of.Given as goal

abbrev pub invariant-loop-t : goal.invariant-loop-t
invariant-loop-t l = Chained (network_of l.network) l.t l.lasts l.priors
