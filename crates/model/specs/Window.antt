-- The rows that a choice can show are those of the window, "from row a to the lesser of a + w and `steps`".
use Rattle.std.specs.Prelude.{ℕ, ◌+◌, ◌≤◌, min, ◌≡◌}
use Rattle.model.specs.Net.{Plan}
use Rattle.model.specs.Rule.{row_in}

pub record Window : Type 0 where
  pub all : (w : ℕ) (P : Plan) (i a : ℕ) → i ≤ a → a ≤ min (i + w) P.steps → (n : ℕ) × (row_in w P i n ≡ a)
  pub only : (w : ℕ) (P : Plan) (i n : ℕ) → i ≤ P.steps → (i ≤ row_in w P i n) × (row_in w P i n ≤ min (i + w) P.steps)
