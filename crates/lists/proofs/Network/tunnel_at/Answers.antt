-- `lists::Network::tunnel_at` meets its contract.
use Rattle.lists.specs.Lists.{tunnel_at}
use Rattle.lists.proofs.Positions.{tunnel-low}
use mathlib.Core.Path.{ap}
use Prim.Native.Nat.{ℕ, ◌+◌, ◌*◌}
use native.Mathlib.Omega.{arith}
use Rattle.lists.proofs.Network.tunnel_at.Goals as goal

pub overflow_add-result : goal.overflow_add-result
unfolding tunnel_at
overflow_add-result c = omega (arith, c.flow_at.ensures, tunnel-low c.args.self c.requires.0 _ c.requires.1)

pub returns : goal.returns
unfolding tunnel_at
returns c = ap (λ (h : ℕ). h + 4 * c.args.t) c.flow_at.ensures
