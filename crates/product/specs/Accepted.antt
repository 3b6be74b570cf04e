-- The planner and the checker agree: what the planner returns, the checker accepts, at the same lag.
use Rattle.std.specs.Prelude.{ℕ, ◌≤◌, ◌≡◌, List}
use Rattle.model.specs.Outcome.{good}
use Rattle.lists.specs.Lists.{network_of}
use Rattle.lists.specs.declared.Answer.TheVariants.{Done}
use Rattle.planner.specs.Planned.{planned}
use Rattle.checker.specs.Check.{verdict, checked}

-- with room for the marks, which are then as many as the tunnels
abbrev pub Accepted : Type 0
Accepted = (w : ℕ) (n p : List ℕ) (room : ℕ) → planned w n ≡ good p → (network_of n).tunnels ≤ room → checked n (verdict w n p room) ≡ Done (network_of n).tunnels
