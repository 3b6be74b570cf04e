-- `link_sums::sums::NetworkSums::protected` meets its contract.
use Rattle.link_sums.proofs.Tables.{sums-known, sums-few}
use Rattle.link_sums.proofs.sums.NetworkSums.protected.Goals as goal

pub returns-clause-value : goal.returns-clause-value
returns-clause-value c = sums-known c.self.inside.network.now _ c.self.view_is c.self.invariant.0 _ c.requires _ _ c.self.invariant.1

pub returns-clause-most : goal.returns-clause-most
returns-clause-most c = sums-few c.self.inside.network.now _ c.self.view_is c.self.invariant.0 _ c.requires _ _ c.self.invariant.1
