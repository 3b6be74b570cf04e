-- `loads::flows::gather_flows` meets its contract.
use mathlib.Core.Path.{refl, ◌∙◌}
use Rattle.loads.proofs.Parts.{part_in}
use Rattle.loads.proofs.Chains.{chain-of}
use Rattle.loads.proofs.ByFlow.{flows-none, flows-more, room-none, room-more}
use native.Mathlib.Omega.{arith}
use Rattle.loads.proofs.flows.gather_flows.Goals as goal

pub loop-f-init : goal.loop-f-init
loop-f-init c = let z = rw c.links-links.ensures.value at c.clear.ensures in record {
  summed = flows-none _ _ _ _ _ _ _ _ _ (omega arith) z;
  room = room-none _ _ _ (omega arith) z;
}

pub loop-f-preserved : goal.loop-f-preserved
loop-f-preserved c = let a = rw c.links-links.ensures.value at c.add_largest.ensures.added_on in record {
  summed = flows-more _ _ _ _ _ _ _ _ _ _ _ _ _ _ _ _ (c.of-part.ensures ∙ rw c.class.ensures.value refl, part_in _) (chain-of _ _ _ _ c.of-chains.ensures _ (omega arith)) c.chain_sums-set.ensures c.add_largest.ensures.widened_on c.loop-f.invariant.summed a;
  room = room-more _ _ _ _ _ _ _ _ _ _ (part_in _) c.chain_sums-set.ensures.within c.add_largest.ensures.widened_on c.loop-f.invariant.room a;
}
