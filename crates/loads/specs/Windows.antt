-- The largest numbers of windows, in vectors. No promise of the product cites these.
use Rattle.std.specs.Prelude.{ℕ, ◌+◌, ◌≤◌, ◌<◌, max, ◌≡◌, ◌≢◌, Bool, true, false, List, length}
use Rattle.model.specs.Largest.{largest}
use Rattle.lists.specs.Lists.{at}
use Rattle.loads.specs.Tables.{block_rows, number_at}

-- the largest of number k of vector j and so many after it
unfoldable pub largest_at : ℕ → List ℕ → ℕ → ℕ → ℕ
largest_at n s j k = largest n (λ a. at s (number_at j (k + a)))

-- each number of vector j but the last is the larger of it and the next
pub record Widened (j : ℕ) (s s' : List ℕ) : Type 0 where
  pub size : length s' ≡ length s
  pub here : (k : ℕ) → k + 1 < block_rows → at s' (number_at j k) ≡ max (at s (number_at j k)) (at s (number_at j (k + 1)))
  pub last : (k : ℕ) → k + 1 ≡ block_rows → at s' (number_at j k) ≡ at s (number_at j k)
  pub others : (i k : ℕ) → k < block_rows → i ≢ j → at s' (number_at i k) ≡ at s (number_at i k)

-- each vector that c picks has the largest numbers of the windows, as far as they lie in it, and nothing that is over its largest number
pub record WidenedOn (n : ℕ) (c : ℕ → Bool) (s s' : List ℕ) : Type 0 where
  pub size : length s' ≡ length s
  pub here : (j k : ℕ) → k + n < block_rows → c j ≡ true → at s' (number_at j k) ≡ largest_at n s j k
  pub most : (j b : ℕ) → ((k : ℕ) → k < block_rows → at s (number_at j k) ≤ b) → (k : ℕ) → k < block_rows → at s' (number_at j k) ≤ b
  pub others : (j k : ℕ) → k < block_rows → c j ≡ false → at s' (number_at j k) ≡ at s (number_at j k)
