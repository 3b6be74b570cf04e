-- How an answer is handed over as four numbers: its kind and then its values, 0 where there is none.
use Rattle.std.specs.Prelude.{ℕ, List, [], ◌∷◌, Result, Ok, Err}
use Rattle.lists.specs.declared.refusal.Refusal.{Refusal}
use Rattle.model.specs.Outcome.{number}
use Rattle.desks.specs.declared.Accepted.{Accepted}
use Rattle.desks.specs.declared.Job.{Job}
use Rattle.desks.specs.declared.numbers.Refused.{Refused}

-- kind 2 for a refusal, with its number, place and second
abbrev pub four_of_refusal : Refusal → List ℕ
four_of_refusal e = 2 ∷ number e.cause ∷ e.place ∷ e.second ∷ []

-- kind 0 with the number of the job that was accepted and how many go before it; 2 as above
abbrev pub four_of_acceptance : Result Accepted Refusal → List ℕ
four_of_acceptance (Ok a) = 0 ∷ a.number ∷ a.before ∷ 0 ∷ []
four_of_acceptance (Err e) = four_of_refusal e

-- kind 0 with desk, number and tag; 2 as above
abbrev pub four_of_job : Result Job Refusal → List ℕ
four_of_job (Ok j) = 0 ∷ j.desk ∷ j.number ∷ j.tag ∷ []
four_of_job (Err e) = four_of_refusal e

-- the same of refusals by their numbers, whichever these are
abbrev pub numbers_of : Refusal → Refused
numbers_of e = record { number = number e.cause; place = e.place; second = e.second }

abbrev pub four_of_submission : Result Accepted Refused → List ℕ
four_of_submission (Ok a) = 0 ∷ a.number ∷ a.before ∷ 0 ∷ []
four_of_submission (Err r) = 2 ∷ r.number ∷ r.place ∷ r.second ∷ []

abbrev pub four_of_hand_out : Result Job Refused → List ℕ
four_of_hand_out (Ok j) = 0 ∷ j.desk ∷ j.number ∷ j.tag ∷ []
four_of_hand_out (Err r) = 2 ∷ r.number ∷ r.place ∷ r.second ∷ []
