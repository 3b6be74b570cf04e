-- A fair hand-out for eight desks: the state, and what a submission and a hand-out make of it. Paper 02, (iv), (ix) and (x).
use Rattle.std.specs.Prelude.{ℕ, ◌+◌, cond, List, [], ◌∷◌, ◌++◌, ltb, eqb, length}
use Rattle.std.proofs.Math.Option.{Option, none, some}
use Rattle.model.specs.Outcome.{Outcome, good, refused}
use Rattle.model.specs.declared.Cause.TheVariants.{NoSuchDesk as no_such_desk, FourWait as four_wait, NothingWaits as nothing_waits}
use Rattle.model.specs.Search.{first}
use Rattle.desks.specs.Round.{in_round, jobs_before}

-- "Desks 0 to 7 submit jobs, each a 32-bit tag"; a job has a number too
pub record Job : Type 0 where
  pub number : ℕ
  pub tag : ℕ

-- for each desk the jobs that wait, the oldest first; the last desk served; for each desk the last number given
pub record State : Type 0 where
  pub queue : ℕ → List Job
  pub last : ℕ
  pub counter : ℕ → ℕ

-- nothing waits; "at first from desk 0", the desk after 7; numbers "from 1"
unfoldable pub empty : State
empty = record { queue = λ d. []; last = 7; counter = λ d. 0 }

-- "the next job number, from 1, returning to 1 after 4,294,967,295"
unfoldable pub next_number : ℕ → ℕ
next_number n = cond (ltb n 4294967295) (n + 1) 1

-- what each desk has, with that of one desk replaced
unfoldable pub replaced : {A : Type 0} → ℕ → A → (ℕ → A) → ℕ → A
replaced desk x each d = cond (eqb d desk) x (each d)

-- what a call comes to: what it is answered, and the state afterwards
pub record Result (A : Type 0) : Type 0 where
  pub answer : Outcome A
  pub state : State

-- a job joins its desk's queue as the youngest, and its number is the last that this desk was given
unfoldable pub joined : ℕ → Job → State → State
joined desk job s = record {
  queue = replaced desk (s.queue desk ++ job ∷ []) s.queue;
  last = s.last;
  counter = replaced desk job.number s.counter;
}

-- "An accepted submission answers with the next job number"; "Each desk now has a job counter of its own"
abbrev pub next_job : ℕ → ℕ → State → Job
next_job desk tag s = record { number = next_number (s.counter desk); tag = tag }

-- "On acceptance the desk learns the exact number of jobs to be handed out before its own if nobody submits again"
pub record Acceptance : Type 0 where
  pub number : ℕ
  pub before : ℕ

-- of the job of a desk that has p older ones
abbrev pub before : State → ℕ → ℕ → ℕ
before s desk p = jobs_before (λ d. length (s.queue d)) s.last desk p

abbrev pub accept : ℕ → ℕ → State → Result Acceptance
accept desk tag s = record {
  answer = good (record { number = (next_job desk tag s).number; before = before s desk (length (s.queue desk)) });
  state = joined desk (next_job desk tag s) s;
}

-- "12: no such desk, tested first. 13: four already wait. .. All leave the state; place the desk"
unfoldable pub submitted : ℕ → ℕ → State → Result Acceptance
submitted desk tag s =
    cond (ltb desk 8)
    (cond (ltb (length (s.queue desk)) 4) (accept desk tag s) (record { answer = refused four_wait desk 0; state = s }))
    (record { answer = refused no_such_desk desk 0; state = s })

-- "a hand-out answers with desk, number and tag"
pub record Handed : Type 0 where
  pub desk : ℕ
  pub job : Job

-- a desk with work: its oldest job, and the others
pub record Work : Type 0 where
  pub desk : ℕ
  pub oldest : Job
  pub others : List Job

unfoldable pub work : ℕ → List Job → Option Work
work desk [] = none
work desk (job ∷ jobs) = some (record { desk = desk; oldest = job; others = jobs })

-- the work of the desk that comes k-th in the round
abbrev pub work_at : State → ℕ → Option Work
work_at s k = work (in_round s.last k) (s.queue (in_round s.last k))

-- "the first desk with work"
unfoldable pub first_work : State → Option Work
first_work s = first 8 (work_at s)

-- a desk is served: its oldest job leaves its queue, and it is the last one served
abbrev pub served : State → Work → State
served s w = record { queue = replaced w.desk w.others s.queue; last = w.desk; counter = s.counter }

-- "A hand-out takes the oldest job"; "14: hand-out with nothing waiting. .. place .. 0 for 14"
unfoldable pub hand_of : State → Option Work → Result Handed
hand_of s none = record { answer = refused nothing_waits 0 0; state = s }
hand_of s (some w) = record { answer = good (record { desk = w.desk; job = w.oldest }); state = served s w }

abbrev pub handed_out : State → Result Handed
handed_out s = hand_of s (first_work s)
