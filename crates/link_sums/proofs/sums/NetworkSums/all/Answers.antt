-- `link_sums::sums::NetworkSums::all` meets its contract.
use Rattle.link_sums.proofs.Tables.{sums-known, sums-few}
use Rattle.link_sums.proofs.sums.NetworkSums.all.Goals as goal

pub returns-clause-value : goal.returns-clause-value
returns-clause-value c = sums-known c.self.inside.network.now _ c.self.view_is c.self.invariant.0 _ c.requires _ _ c.self.invariant.2

pub returns-clause-most : goal.returns-clause-most
returns-clause-most c = sums-few c.self.inside.network.now _ c.self.view_is c.self.invariant.0 _ c.requires _ _ c.self.invariant.2
