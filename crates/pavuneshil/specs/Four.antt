-- How the static library hands an answer over: as four numbers, its kind and then its values, 0 where there is none.
use Rattle.std.specs.Prelude.{ℕ, List, [], ◌∷◌, Result, Ok, Err}
use Rattle.lists.specs.declared.Answer.{Answer}
use Rattle.lists.specs.declared.Answer.TheVariants.{Done, Plan, Refused}
use Rattle.lists.specs.declared.refusal.Refusal.{Refusal}
use Rattle.model.specs.Outcome.{number}

-- kind 0 done and 1 a plan, each with the length written; 2 a refusal, with its number, place and second
abbrev pub four : Answer → List ℕ
four (Done length) = 0 ∷ length ∷ 0 ∷ 0 ∷ []
four (Plan length) = 1 ∷ length ∷ 0 ∷ 0 ∷ []
four (Refused number place second) = 2 ∷ number ∷ place ∷ second ∷ []

-- the step bound's answer: kind 0 with its number, or 2 as above
abbrev pub four_of_bound : Result ℕ Refusal → List ℕ
four_of_bound (Ok steps) = 0 ∷ steps ∷ 0 ∷ 0 ∷ []
four_of_bound (Err e) = 2 ∷ number e.cause ∷ e.place ∷ e.second ∷ []
