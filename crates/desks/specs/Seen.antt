-- How a value of the state's type is seen as a state, and how an answer is told. Every value is a state: of a desk's count at most four are read, places in its
-- ring count from 0 to 3 and again from 0, and desks in the round from 0 to 7 and again from 0.
use Rattle.std.specs.Prelude.{ℕ, ◌+◌, ◌*◌, ◌%◌, min, ◌≡◌, get_or, Result, Ok, Err}
use Rattle.model.specs.Outcome.{Outcome, good, refused}
use Rattle.model.specs.Listed.{listed}
use Rattle.lists.specs.declared.refusal.Refusal.{Refusal}
use Rattle.lists.specs.Refusals.{refusal}
use Rattle.desks.specs.State.{Job, State, Acceptance, Handed}
use Rattle.desks.specs.declared.Desks.{Desks}
use Rattle.desks.specs.declared.Accepted.{Accepted}
use Rattle.desks.specs.declared.Job as code

-- the job of desk d before which i others wait, and its place: each desk has a ring of four
abbrev pub place_of : Desks → ℕ → ℕ → ℕ
place_of s d i = 4 * d + (get_or s.oldest d 0 + i) % 4

unfoldable pub job_at : Desks → ℕ → ℕ → Job
job_at s d i = record { number = get_or s.numbers (place_of s d i) 0; tag = get_or s.tags (place_of s d i) 0 }

unfoldable pub seen : Desks → State
seen s = record { queue = λ d. listed (min (get_or s.waiting d 0) 4) (job_at s d); last = s.last; counter = λ d. get_or s.counters d 0 }

-- "All leave the state": a refusal leaves the value that it was given
abbrev pub Untouched : {A : Type 0} → Outcome A → Desks → Desks → Type 0
Untouched (good a) s t = Unit {0}
Untouched (refused c place second) s t = t ≡ s

-- the answers, a refusal with "this paper's number and values"
abbrev pub told_acceptance : Outcome Acceptance → Result Accepted Refusal
told_acceptance (good a) = Ok (record { number = a.number; before = a.before })
told_acceptance (refused c place second) = Err (refusal c place second)

abbrev pub told_job : Outcome Handed → Result code.Job Refusal
told_job (good h) = Ok (record { desk = h.desk; number = h.job.number; tag = h.job.tag })
told_job (refused c place second) = Err (refusal c place second)
