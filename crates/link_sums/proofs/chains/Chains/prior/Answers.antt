-- `link_sums::chains::Chains::prior` meets its contract.
use mathlib.Core.Path.{◌≡◌}
use lib.ListN.{get_or}
use Rattle.std.proofs.Common.{rules}
use Rattle.std.specs.Prelude.{None}
use Rattle.link_sums.proofs.Flows.{prior-known}
use Rattle.link_sums.proofs.chains.Chains.prior.Goals as goal

pub returns : goal.returns
returns c =
    let e : c.map.result ≡ get_or c.self.inside.priors c.args.t None = search rules in
    rw e (prior-known c.self.inside.network.now _ c.self.view_is _ _ c.self.invariant.1 _ c.requires.0)
