-- Laws of tables of amounts: what the loop that fills one proves at each turn.
use Prim.Native.Nat.{ℕ, ◌+◌, ◌<◌}
use mathlib.Core.Path.{◌≡◌}
use mathlib.Core.List.{List}
use native.Mathlib.Omega.{arith}
use Rattle.loads.specs.Tables.{block_rows}
use Rattle.loads.proofs.Vectors.{last_or}
use Rattle.amounts.specs.Rows.{Placed, RowsGiven, RowAmounts}

module _ (given : ℕ → ℕ → ℕ → Type 0) (n end i : ℕ) where
  pub rows_more : (now : ℕ → ℕ → Type 0) (k : ℕ) (s s₁ : List ℕ) → k < block_rows → ((t r : ℕ) → now t r → given (i + k) t r) → RowsGiven given n end i k s → Placed now n k s s₁
      → RowsGiven given n end i (k + 1) s₁
  rows_more now k s s₁ hk same w a = record {
    each = λ t j ht hj hs.
        last_or j k hj
        (λ e. rw e (same t _ (a.here t ht)))
        (λ h. rw (a.others t j (omega arith) (λ e. omega arith)) (w.each t j ht h hs));
  }

  -- what is given is the amounts x
  pub rows_are : (x : ℕ → ℕ → ℕ) (n₁ end₁ m : ℕ) (s : List ℕ) → n ≡ n₁ → end ≡ end₁ → ((a t r : ℕ) → given a t r → r ≡ x a t) → RowsGiven given n end i m s → RowAmounts x n₁ end₁ i m s
  rows_are x n₁ end₁ m s e f same w = record { each = λ t k ht hk hs. same (i + k) t _ (w.each t k (omega arith) hk (omega arith)) }
