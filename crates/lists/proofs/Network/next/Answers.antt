-- `lists::Network::next` meets its contract.
use Prim.Native.Nat.{ℕ, ◌-◌}
use mathlib.Core.Path.{ap}
use Rattle.lists.specs.Lists.{next_in}
use Rattle.lists.proofs.Positions.{flow-some}
use native.Mathlib.Omega.{arith}
use Rattle.lists.proofs.Network.next.Goals as goal

pub overflow_sub-result : goal.overflow_sub-result
overflow_sub-result c = omega (arith, c.per_flow.ensures, flow-some c.args.self.edition)

pub returns : goal.returns
unfolding next_in
returns c = ap (λ (p : ℕ). p - 1) c.per_flow.ensures
