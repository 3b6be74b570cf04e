-- `loads::gather::gather_network` meets its contract.
use mathlib.Core.Path.{refl, ◌∙◌}
use Rattle.model.specs.Limits.{most_tunnels}
use Rattle.lists.specs.Lists.{network_of}
use Rattle.loads.proofs.Passes.{loads-none, loads-more, loads-room}
use native.Mathlib.Omega.{arith}
use Rattle.loads.proofs.gather.gather_network.Goals as goal

pub loop-t-init : goal.loop-t-init
loop-t-init c = loads-none _ _ _ _ _ _ (omega arith) (rw c.links-links.ensures.value at c.clear.ensures)

pub add_tunnel-requires : goal.add_tunnel-requires
unfolding network_of
add_tunnel-requires c =
    rw c.links-links.ensures.value
    (loads-room _ _ _ _ most_tunnels _ _ _ _ c.via.ensures.value (omega (arith, c.loop-t-test.true)) (omega arith) (omega arith) c.number.ensures.few c.via.ensures.within.1 c.args.amounts.now.table c.loop-t.invariant)

pub loop-t-preserved : goal.loop-t-preserved
loop-t-preserved c =
    loads-more _ _ _ _ _ _ _ _ _ c.via.ensures.value (c.number.ensures.number ∙ c.of-part.ensures ∙ rw (c.class.ensures.value, c.flow.ensures.value) refl, c.number.ensures.few) c.loop-t.invariant
    (rw c.links-links.ensures.value at c.add_tunnel.ensures)
