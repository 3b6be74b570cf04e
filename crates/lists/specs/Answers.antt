-- What an operation answers, and what it leaves in the output that is lent to it, given what it comes to.
use Rattle.std.specs.Prelude.{ℕ, cond, List, ◌++◌, leb, length, drop}
use Rattle.model.specs.Outcome.{Outcome, good, refused, number}
use Rattle.model.specs.declared.Cause.TheVariants.{NoRoom as no_room}
use Rattle.lists.specs.declared.Answer.{Answer}
use Rattle.lists.specs.declared.Answer.TheVariants.{Done, Plan, Refused}

-- "lent output too short | 10 | length needed; 0"
abbrev pub with_room : ℕ → Outcome (List ℕ) → Outcome (List ℕ)
with_room room (good l) = cond (leb (length l) room) (good l) (refused no_room (length l) 0)
with_room room (refused c place second) = refused c place second

-- "Done and a plan carry the length written"; a refusal "carries its number, place and second"
abbrev pub done : Outcome (List ℕ) → Answer
done (good l) = Done (length l)
done (refused c place second) = Refused (number c) place second

abbrev pub plan : Outcome (List ℕ) → Answer
plan (good l) = Plan (length l)
plan (refused c place second) = Refused (number c) place second

-- the lent output afterwards: "Output beyond the written length stays untouched", and a refusal leaves all
abbrev pub lent : Outcome (List ℕ) → List ℕ → List ℕ
lent (good l) out = l ++ drop (length l) out
lent (refused c place second) out = out
