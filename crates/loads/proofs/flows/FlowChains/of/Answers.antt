-- `loads::flows::FlowChains::of` meets its contract.
use Prim.Native.Nat.{ℕ}
use mathlib.Core.Path.{refl}
use Rattle.std.specs.Prelude.{Option, None}
use lib.ListN.{length-replicate}
use Rattle.model.specs.Limits.{most_tunnels}
use Rattle.loads.proofs.Chains.{chains-none, chains-more}
use native.Mathlib.Omega.{arith}
use Rattle.loads.proofs.flows.FlowChains.of.Goals as goal

pub loop-t-init : goal.loop-t-init
loop-t-init c = chains-none _ _ _ refl (length-replicate {A = Option ℕ} most_tunnels None)

pub loop-t-preserved : goal.loop-t-preserved
loop-t-preserved c = chains-more _ _ _ _ _ (omega arith) c.flow-f.ensures.bound.1 c.flow-f.ensures.value c.loop-t.invariant
