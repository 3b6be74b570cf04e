-- What a good network and a good plan say of their amounts.
use Prim.Native.Nat.{ℕ, ◌+◌, ◌*◌, ◌≤◌, ◌<◌}
use mathlib.Core.List.{List}
use native.Mathlib.Omega.{arith}
use native.Mathlib.Nat.{le_trans, mul-le-mul}
use lib.ListN.{length}
use Rattle.model.specs.Limits.{most_steps, most_amount}
use Rattle.model.specs.Net.{row}
use Rattle.model.proofs.Rows.{row_first, row_last, row-between, row-cases}
use Rattle.lists.specs.Lists.{network_sizes, network_of, plan_sizes, row_at, plan_of}
use Rattle.lists.proofs.Positions.{row-in}
use Rattle.amounts.specs.Rows.{Checkable}

pub in_parts : (parts m : ℕ) → parts ≤ most_steps → m ≤ most_amount → parts * m ≤ most_amount * most_steps
in_parts parts m h k = let q : parts * m ≤ most_steps * most_amount = mul-le-mul h k in omega arith

module _ (l p : List ℕ) (k : Checkable l p) where
  -- no amount is over the largest, in as many parts as there can be
  pub row_small : (a t : ℕ) → a ≤ (plan_sizes p).steps → t < (network_sizes l).tunnels → row (network_of l) (plan_of p) a t ≤ most_amount * most_steps
  unfolding network_of plan_of
  row_small a t h ht =
      row-cases (network_of l) (plan_of p) a t h
      (λ e. rw (row_first (network_of l) (plan_of p) a t e) (in_parts _ _ k.plan.parts.1 (k.network.ranges.tunnels.old t ht)))
      (λ e z. rw (row_last (network_of l) (plan_of p) a t e z) (in_parts _ _ k.plan.parts.1 (k.network.ranges.tunnels.new t ht)))
      (λ z m.
      let i : row_at (plan_sizes p) 1 ≤ row_at (plan_sizes p) a + t = omega arith in
      let j : row_at (plan_sizes p) a + t < length p = omega (arith, row-in p k.plan a z m, k.tunnels) in
      rw (row-between (network_of l) (plan_of p) a t z m) (le_trans (k.plan.amounts _ i j) (omega (arith, k.plan.parts))))
