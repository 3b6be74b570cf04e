-- Rules that ask less: what passes by one passes by the other.
use Rattle.std.specs.Prelude.{ℕ, ◌≤◌, ◌<◌, ◌≡◌, true}
use Rattle.std.proofs.Math.Option.{some}
use Rattle.model.specs.Net.{Net, Plan, with_unit}
use Rattle.model.specs.Rule.{missed_rate, missed_row, accepted}
use Rattle.model.specs.Even.{keeps_scratch, fewest}

-- the tunnels' flows are 0 to flows - 1
abbrev pub InFlows : Net → Type 0
InFlows N = (t : ℕ) → t < N.tunnels → N.flow t < N.flows

pub record Weaker : Type 0 where
  -- "What passes with `unit=0` passes with `unit=1`"
  pub unit : (w : ℕ) (N : Net) (P : Plan) → InFlows N → accepted w (with_unit 0 N) P ≡ true → accepted w (with_unit 1 N) P ≡ true
  -- so its fewest even steps are no more
  pub unit_steps : (w : ℕ) (N : Net) (q : ℕ) → InFlows N → fewest w (with_unit 0 N) ≡ some q → (p : ℕ) × (fewest w (with_unit 1 N) ≡ some p) × (p ≤ q)
  -- "passing with w means passing with less"
  pub lag : (w v : ℕ) (N : Net) (P : Plan) → v ≤ w → accepted w N P ≡ true → accepted v N P ≡ true

-- the sums of a network and of a plan's rows, and whether a network keeps its scratch, are the same with any unit
pub record AnyUnit : Type 0 where
  pub rates : (N : Net) (u : ℕ) → missed_rate (with_unit u N) ≡ missed_rate N
  pub rows : (N : Net) (P : Plan) (u : ℕ) → missed_row (with_unit u N) P ≡ missed_row N P
  pub scratch : (N : Net) (u : ℕ) → InFlows N → keeps_scratch (with_unit u N) ≡ keeps_scratch N
