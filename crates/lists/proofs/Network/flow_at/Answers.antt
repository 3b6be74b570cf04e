-- `lists::Network::flow_at` meets its contract.
use Rattle.lists.specs.Lists.{flow_at}
use Rattle.lists.proofs.Positions.{flows-few, flow-low}
use mathlib.Core.Path.{ap, ap₂}
use Prim.Native.Nat.{ℕ, ◌+◌, ◌*◌}
use native.Mathlib.Omega.{arith}
use Rattle.lists.proofs.Network.flow_at.Goals as goal

pub overflow_mul-result : goal.overflow_mul-result
overflow_mul-result c = omega (arith, ap (λ (p : ℕ). p * c.args.f) c.per_flow.ensures, flows-few c.args.self c.requires.0 _ c.requires.1)

pub overflow_add-result : goal.overflow_add-result
unfolding flow_at
overflow_add-result c = omega (arith, c.link_at.ensures, ap (λ (p : ℕ). p * c.args.f) c.per_flow.ensures, flow-low c.args.self c.requires.0 _ c.requires.1)

pub returns : goal.returns
unfolding flow_at
returns c = ap₂ (λ (h p : ℕ). h + p * c.args.f) c.link_at.ensures c.per_flow.ensures
