-- Edition 1 is what it was.
use mathlib.Core.Path.{◌≡◌, ap}
use mathlib.Core.Bool.{false}
use mathlib.Core.List.{List}
use Prim.Native.Nat.{ℕ, ◌+◌}
use Rattle.model.proofs.Rows.{one-rate}
use Rattle.lists.specs.Lists.{at, has_next, flow_at, network_sizes, network_of}
use Rattle.lists.specs.Editions.{EditionOne}
use Rattle.lists.proofs.Positions.{next-rate}

no-next : (l : List ℕ) → at l 0 ≡ 1 → has_next (network_sizes l).edition ≡ false
unfolding network_sizes
no-next l e = rw e

pub edition-one : EditionOne
unfolding network_of
edition-one l e = one-rate (network_of l) (λ f _. ap (λ (j : ℕ). at l (flow_at (network_sizes l) f + j)) (next-rate (network_sizes l).edition (no-next l e)))
