-- The amounts in the rows of a plan, in tables of a block. No promise of the product cites these.
use Rattle.std.specs.Prelude.{ℕ, suc, ◌+◌, ◌<◌, max, ◌≡◌, ◌≢◌, List}
use Rattle.model.specs.Net.{Net, Plan, row}
use Rattle.lists.specs.Lists.{at, network_sizes, plan_sizes}
use Rattle.lists.specs.Good.{GoodNetwork, GoodPlan}
use Rattle.loads.specs.Tables.{block_rows, number_at}

-- a network and a plan that are good, of the same number of tunnels
pub record Checkable (n p : List ℕ) : Type 0 where
  pub network : GoodNetwork n
  pub plan : GoodPlan p
  pub tunnels : (plan_sizes p).tunnels ≡ (network_sizes n).tunnels

-- the larger of a tunnel's amounts before and after the step from row i
unfoldable pub larger_row : Net → Plan → ℕ → ℕ → ℕ
larger_row N P i t = max (row N P i t) (row N P (suc i) t)

-- row k of the block has what is given of the first n tunnels, and the other rows have what they had
pub record Placed (given : ℕ → ℕ → Type 0) (n k : ℕ) (s s' : List ℕ) : Type 0 where
  pub here : (t : ℕ) → t < n → given t (at s' (number_at t k))
  pub others : (t j : ℕ) → j < block_rows → j ≢ k → at s' (number_at t j) ≡ at s (number_at t j)

-- the first m rows of the block have what is given of n tunnels in each row from row i on, for the rows a before the end
pub record RowsGiven (given : ℕ → ℕ → ℕ → Type 0) (n end i m : ℕ) (amounts : List ℕ) : Type 0 where
  pub each : (t k : ℕ) → t < n → k < m → i + k < end → given (i + k) t (at amounts (number_at t k))

-- they have the amounts x a
pub record RowAmounts (x : ℕ → ℕ → ℕ) (n end i m : ℕ) (amounts : List ℕ) : Type 0 where
  pub each : (t k : ℕ) → t < n → k < m → i + k < end → at amounts (number_at t k) ≡ x (i + k) t
