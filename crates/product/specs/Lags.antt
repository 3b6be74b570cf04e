-- "Passing with w means passing with less": by the checker's and the planner's answers at two lags.
use Rattle.std.specs.Prelude.{ℕ, ◌≤◌, ◌≡◌, true, List}
use Rattle.model.specs.Outcome.{is_lag}
use Rattle.lists.specs.Lists.{plan_of}
use Rattle.product.specs.Demand2.{Accepts}
use Rattle.product.specs.Demand3.{Returns}

pub record Lags : Type 0 where
  pub checker : (w v : ℕ) (n p : List ℕ) (room : ℕ) → is_lag v ≡ true → v ≤ w → Accepts w n p room → Accepts v n p room
  -- and the planner's fewest steps are no more
  pub planner : (w v : ℕ) (n p out : List ℕ) → is_lag v ≡ true → v ≤ w → Returns w n p out → (q : List ℕ) × ((plan_of q).steps ≤ (plan_of p).steps) × Returns v n q out
