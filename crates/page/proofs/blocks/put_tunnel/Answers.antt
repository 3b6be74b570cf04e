-- `page::blocks::put_tunnel` meets its contract.
use mathlib.Core.Path.{◌≡◌, refl}
use Rattle.lists.specs.Lists.{network_of}
use Rattle.fields.specs.Columns.{numbers}
use Rattle.fields.specs.Inner.{Fits}
use Rattle.page.specs.Page.{tunnel_fields}
use Rattle.page.proofs.Sizes.{tunnel-line}
use Rattle.page.proofs.blocks.put_tunnel.Goals as goal
use Rattle.page.proofs.blocks.put_tunnel.Goals.{After-new_amount-new}

-- the numbers of the line
fields : (c : After-new_amount-new)
    → Fits c.args.t c.flow-flow.result c.hops-crossed.result c.old-old.result c.new_amount-new.result
    × (numbers c.args.t c.flow-flow.result c.hops-crossed.result c.old-old.result c.new_amount-new.result ≡ tunnel_fields (network_of c.args.pair.now.network) c.args.t)
fields c =
    let e = c.network-network.ensures.value in
    tunnel-line _ c.network-network.ensures.checkable.network c.args.t c.requires.0 refl (rw e at c.flow-flow.ensures.value) (rw e at c.hops-crossed.ensures) (rw e at c.old-old.ensures.value) (rw e at c.new_amount-new.ensures.value)

pub put_line-requires : goal.put_line-requires
put_line-requires c = ((fields ((goal.at.put_line-requires c).After-new_amount-new)).0, c.requires.1)

pub returns : goal.returns
returns c = rw (fields ((goal.at.returns c).After-new_amount-new)).1 at c.put_line.ensures
