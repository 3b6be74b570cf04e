-- A network and a plan, as two lists.
use Rattle.std.specs.Prelude.{ℕ, List}

pub record Lists : Type 0 where
  pub network : List ℕ
  pub plan : List ℕ
