-- A desk's job numbers: they follow from its own calls and from which of these were accepted.
use Prim.Native.Nat.{ℕ, suc, ◌+◌, ◌%◌}
use mathlib.Core.Path.{◌≡◌, refl, sym, ap, ◌∙◌}
use mathlib.Core.Bool.{cond}
use mathlib.Core.List.{List, [], ◌∷◌, ◌++◌, flat_map}
use native.Mathlib.Omega.{arith}
use lib.ListN.{length, length-append}
use Rattle.desks.specs.State.{Job, State, next_number, replaced, joined, next_job, hand_of}
use Rattle.desks.specs.Run.{Call, submit, hand_out, submission, event, next, log, accepted_in, Attempt, taken, declined, attempt_in, accepted, attempts}
use Rattle.desks.proofs.States.{by-submit, by-hand-out, by-desk, by_less}

-- ---- the jobs that a desk's calls come to, from its counter on
pub given : ℕ → List Attempt → List Job
given counter [] = []
given counter (taken tag ∷ calls) = record { number = next_number counter; tag = tag } ∷ given (next_number counter) calls
given counter (declined tag ∷ calls) = given counter calls

given-in : (c : Call) (s : State) (d : ℕ) (more : List Attempt)
    → accepted_in d (event c s) ++ given ((next c s).counter d) more ≡ given (s.counter d) (attempt_in d (event c s) ++ more)
unfolding joined replaced hand_of given
given-in (submit desk tag) s d more =
    by-submit desk tag s
    (λ r. accepted_in d (submission desk tag r.answer) ++ given (r.state.counter d) more ≡ given (s.counter d) (attempt_in d (submission desk tag r.answer) ++ more))
    (λ c place. by-desk d desk (λ b. given (s.counter d) more ≡ given (s.counter d) (cond b (declined tag ∷ []) [] ++ more)) (λ e. refl) (λ e. refl))
    (λ k l. by-desk d desk
    (λ b. cond b (next_job desk tag s ∷ []) [] ++ given (cond b (next_job desk tag s).number (s.counter d)) more
    ≡ given (s.counter d) (cond b (taken tag ∷ []) [] ++ more))
    (λ e. ap (λ i. given (s.counter i) (taken tag ∷ more)) (sym e))
    (λ e. refl))
given-in hand_out s d more = by-hand-out s (λ r. given (r.state.counter d) more ≡ given (s.counter d) more) (λ n. refl) (λ w f. refl)

pub accepted-given : (calls : List Call) (s : State) (d : ℕ) → accepted d (log s calls) ≡ given (s.counter d) (attempts d (log s calls))
unfolding log flat_map given
accepted-given [] s d = refl
accepted-given (c ∷ calls) s d =
    ap (λ (l : List Job). accepted_in d (event c s) ++ l) (accepted-given calls (next c s) d) ∙ given-in c s d (attempts d (log (next c s) calls))

-- ---- and their numbers: of the job before which n others of its desk were accepted
abbrev pub number_of : ℕ → ℕ
number_of n = n % 4294967295 + 1

next_of : (n : ℕ) → next_number (number_of n) ≡ number_of (suc n)
unfolding next_number
next_of n =
    by_less (number_of n) 4294967295 (λ b. cond b (number_of n + 1) 1 ≡ number_of (suc n)) (λ l. omega (arith, l)) (λ l. omega (arith, l))

pub given-number : (calls : List Attempt) (counter n : ℕ) (older : List Job) (job : Job) (younger : List Job) → next_number counter ≡ number_of n
    → given counter calls ≡ older ++ job ∷ younger → job.number ≡ number_of (n + length older)
unfolding given
given-number [] counter n older job younger h e = absurd (omega (arith, ap length e, length-append older (job ∷ younger)))
given-number (declined tag ∷ calls) counter n older job younger h e = given-number calls counter n older job younger h e
given-number (taken tag ∷ calls) counter n [] job younger h e =
    let j : record { number = next_number counter; tag = tag } ≡ job = cc in
    omega (arith, ap (λ (x : Job). x.number) j, h)
given-number (taken tag ∷ calls) counter n (x ∷ older) job younger h e =
    let l : given (next_number counter) calls ≡ older ++ job ∷ younger = cc in
    let r = given-number calls (next_number counter) (suc n) older job younger (ap next_number h ∙ next_of n) l in
    omega (arith, r)
