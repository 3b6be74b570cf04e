-- What the operation that gives the step bound answers.
use Rattle.std.specs.Prelude.{ℕ, Bool, cond, ◌&&◌, ◌||◌, leb, eqb, Result, Ok, Err}
use Rattle.model.specs.Limits.{least_share, most_share}
use Rattle.model.specs.Outcome.{Outcome, good, refused}
use Rattle.model.specs.declared.Cause.TheVariants.{OutOfRange as out_of_range}
use Rattle.model.specs.Even.{step_bound}
use Rattle.lists.specs.declared.refusal.Refusal.{Refusal}
use Rattle.lists.specs.Refusals.{refusal}

-- "`scratch` 20..500; `overrun` 0 or 20..500"
abbrev pub is_share : ℕ → Bool
is_share x = leb least_share x && leb x most_share

-- "An operation gives this step bound from `scratch` and `overrun`; one out of its range meets 2, at line 2 or 3, second 0, scratch first."
unfoldable pub bound_of : ℕ → ℕ → Outcome ℕ
bound_of scratch overrun =
    cond (is_share scratch) (cond (eqb overrun 0 || is_share overrun) (good (step_bound scratch overrun)) (refused out_of_range 3 0)) (refused out_of_range 2 0)

-- "The step bound's answer is its number or a refusal."
abbrev pub told : Outcome ℕ → Result ℕ Refusal
told (good q) = Ok q
told (refused c place second) = Err (refusal c place second)
