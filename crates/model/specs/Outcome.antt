-- What an operation comes to: what it gives, or a refusal. "Every answer is one of: done, a plan, or a refusal that carries its number, place and second."
use Rattle.std.specs.Prelude.{ℕ, Bool, cond, ◌&&◌, leb}
use Rattle.std.proofs.Math.Option.{Option, none, some}
use Rattle.model.specs.Limits.{most_lag}
use Rattle.model.specs.declared.Cause.{Cause}
use Rattle.model.specs.declared.Cause.TheVariants.{Malformed as malformed, OutOfRange as out_of_range, Missing as missing, MissedRate as missed_rate, OtherTunnels as other_tunnels, MissedRow as missed_row, OverProtected as over_protected, OverTotal as over_total, NoEvenPlan as no_even_plan, NoRoom as no_room, NoSuchStep as no_such_step, NoSuchDesk as no_such_desk, FourWait as four_wait, NothingWaits as nothing_waits, OtherShared as other_shared, TooMany as too_many, OtherSteps as other_steps, Unfit as unfit, LagOutside as lag_outside, BadScript as bad_script, Unshareable as unshareable}

-- the causes of "Turned down, and why", and from 11 on of the second paper, by their numbers
abbrev pub number : Cause → ℕ
number malformed = 1
number out_of_range = 2
number missing = 3
number missed_rate = 4
number other_tunnels = 5
number missed_row = 6
number over_protected = 7
number over_total = 8
number no_even_plan = 9
number no_room = 10
number no_such_step = 11
number no_such_desk = 12
number four_wait = 13
number nothing_waits = 14
number other_shared = 15
number too_many = 16
number other_steps = 17
number unfit = 18
number lag_outside = 19
number bad_script = 20
number unshareable = 21

-- a refusal has its cause, place and second
pub data Outcome (A : Type 0) : Type 0 where
  good : A → Outcome A
  refused : Cause → ℕ → ℕ → Outcome A

-- where a refusal points
pub record Place : Type 0 where
  pub place : ℕ
  pub second : ℕ

-- a refusal where a place is found, else what comes after
abbrev pub unless : {A : Type 0} → Cause → Option Place → Outcome A → Outcome A
unless c none next = next
unless c (some p) next = refused c p.place p.second

-- what comes after, where nothing is refused
abbrev pub and_then : {A B : Type 0} → Outcome A → (A → Outcome B) → Outcome B
and_then (good a) next = next a
and_then (refused c place second) next = refused c place second

-- "a lag w of 1 to 4"
abbrev pub is_lag : ℕ → Bool
is_lag w = leb 1 w && leb w most_lag

-- "lag outside 1..4, tested before all else; place the lag, second 0"; what comes after, at any other lag
abbrev pub at_lag : {A : Type 0} → ℕ → Outcome A → Outcome A
at_lag w next = cond (is_lag w) next (refused lag_outside w 0)
