-- `lists::Network::link_at` meets its contract.
use Rattle.lists.specs.Lists.{link_at}
use Rattle.lists.proofs.Positions.{links-few, link-low}
use mathlib.Core.Path.{ap, ap₂}
use Prim.Native.Nat.{ℕ, ◌+◌, ◌*◌}
use native.Mathlib.Omega.{arith}
use Rattle.lists.proofs.Network.link_at.Goals as goal

pub overflow_mul-result : goal.overflow_mul-result
overflow_mul-result c = omega (arith, ap (λ (p : ℕ). p * c.args.k) c.per_link.ensures, links-few c.args.self c.requires.0 _ c.requires.1)

pub overflow_add-result : goal.overflow_add-result
unfolding link_at
overflow_add-result c = omega (arith, c.head.ensures, ap (λ (p : ℕ). p * c.args.k) c.per_link.ensures, link-low c.args.self c.requires.0 _ c.requires.1)

pub returns : goal.returns
unfolding link_at
returns c = ap₂ (λ (h p : ℕ). h + p * c.args.k) c.head.ensures c.per_link.ensures
