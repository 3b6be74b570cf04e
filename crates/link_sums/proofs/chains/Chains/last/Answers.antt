-- `link_sums::chains::Chains::last` meets its contract.
use mathlib.Core.Path.{◌≡◌}
use lib.ListN.{get_or}
use Rattle.std.proofs.Common.{rules}
use Rattle.std.specs.Prelude.{None}
use Rattle.link_sums.proofs.Flows.{last-known}
use Rattle.link_sums.proofs.chains.Chains.last.Goals as goal

pub returns : goal.returns
returns c =
    let e : c.map.result ≡ get_or c.self.inside.lasts c.args.flow None = search rules in
    rw e (last-known c.self.inside.network.now _ c.self.view_is _ _ c.self.invariant.1 _ c.requires)
