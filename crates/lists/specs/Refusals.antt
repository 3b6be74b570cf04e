-- What an operation comes to, as the code has it inside: a value or a refusal; and the answer that is made of it.
use Rattle.std.specs.Prelude.{ℕ, List, length, Result, Ok, Err}
use Rattle.model.specs.Outcome.{Outcome, good, refused, number}
use Rattle.model.specs.declared.Cause.{Cause}
use Rattle.lists.specs.declared.refusal.Refusal.{Refusal}
use Rattle.lists.specs.declared.Answer.{Answer}
use Rattle.lists.specs.declared.Answer.TheVariants.{Done, Plan, Refused}

-- a refusal
abbrev pub refusal : Cause → ℕ → ℕ → Refusal
refusal c place second = record { cause = c; place = place; second = second }

-- the list that an operation gives, or its refusal
abbrev pub judged : Outcome (List ℕ) → Result (List ℕ) Refusal
judged (good l) = Ok l
judged (refused c place second) = Err (refusal c place second)

-- the length of what it writes, or its refusal
abbrev pub counted : Outcome (List ℕ) → Result ℕ Refusal
counted (good l) = Ok (length l)
counted (refused c place second) = Err (refusal c place second)

-- the answer of a refusal; of an operation that gives no plan, and of the one that does
abbrev pub refused_with : Refusal → Answer
refused_with e = Refused (number e.cause) e.place e.second

abbrev pub done_with : Result ℕ Refusal → Answer
done_with (Ok n) = Done n
done_with (Err e) = refused_with e

abbrev pub plan_with : Result ℕ Refusal → Answer
plan_with (Ok n) = Plan n
plan_with (Err e) = refused_with e
