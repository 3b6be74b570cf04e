-- What is claimed of jobs, over every run.
use Prim.Native.Nat.{ℕ, ◌+◌, ◌*◌, ◌%◌, ◌≤◌, ◌<◌}
use mathlib.Core.Path.{◌≡◌, refl, sym, ap, ◌∙◌, subst}
use mathlib.Core.Logic.{◌≢◌}
use mathlib.Core.List.{List, [], ◌∷◌, ◌++◌, append_assoc}
use native.Mathlib.Omega.{arith}
use lib.ListN.{length, length-append, take, drop, take-append-drop}
use lib.Seq.{drop-append_seam, drop-append-le, take-append_seam, take-append-le}
use Rattle.model.specs.Outcome.{good}
use Rattle.model.proofs.Listed.{flat_map-append}
use Rattle.model.proofs.Outcomes.{good-refused, good-same}
use Rattle.model.proofs.Searches.{le_of_not_lt}
use Rattle.desks.specs.State.{Job, State, Acceptance, empty, next_number, joined, next_job, submitted}
use Rattle.desks.specs.Run.{Call, log, after, handed_in, accepted, handed, attempts, hand_outs}
use Rattle.desks.specs.Claim.{Exactly, AtMost, Claim}
use Rattle.desks.proofs.States.{by-submit}
use Rattle.desks.proofs.Rounds.{place-below}
use Rattle.desks.proofs.Runs.{log-append, four-wait, conserved, out-most, waits}
use Rattle.desks.proofs.Exact.{exactly-joined}
use Rattle.desks.proofs.Counters.{given, accepted-given, given-number}

-- nothing waits at first
nothing_yet : (d : ℕ) → empty.queue d ≡ []
unfolding empty
nothing_yet d = refl

four : (calls : List Call) (d : ℕ) → length ((after empty calls).queue d) ≤ 4
four calls d = four-wait calls empty d (omega (arith, ap length (nothing_yet d)))

order : (calls : List Call) (d : ℕ) → accepted d (log empty calls) ≡ handed d (log empty calls) ++ (after empty calls).queue d
order calls d = ap (λ (l : List Job). l ++ accepted d (log empty calls)) (sym (nothing_yet d)) ∙ conserved calls empty d

exact : (s : State) (desk tag : ℕ) (a : Acceptance) → (submitted desk tag s).answer ≡ good a
    → Exactly a.before (submitted desk tag s).state desk (s.queue desk) (record { number = a.number; tag = tag })
exact s desk tag a e =
    by-submit desk tag s
    (λ r. r.answer ≡ good a → Exactly a.before r.state desk (s.queue desk) (record { number = a.number; tag = tag }))
    (λ c place h. absurd (good-refused a c place 0 h))
    (λ k l h. subst (λ (x : Acceptance). Exactly x.before (joined desk (next_job desk tag s) s) desk (s.queue desk) (record { number = x.number; tag = tag })) (good-same _ a h)
    (exactly-joined s desk (next_job desk tag s) k))
    e

-- while a job with p older ones waits, at most 8p + 7 jobs are handed out
at_most : (p most : ℕ) → 8 * p + 7 ≤ most → AtMost p most
at_most p most m before calls d older job younger h n e l =
    let s = after empty before in
    let q = ap length e ∙ length-append older (job ∷ younger) in
    record {
      still =
          sym (drop-append_seam (handed d (log s calls)) ((after s calls).queue d))
          ∙ ap (drop (length (handed d (log s calls))))
          (sym (conserved calls s d) ∙ ap (λ (x : List Job). x ++ accepted d (log s calls)) e ∙ append_assoc older (job ∷ younger) _)
          ∙ drop-append-le (length (handed d (log s calls))) older _ (omega (arith, l, n));
      jobs = omega (arith, m, waits calls s d p h (omega (arith, q, n)) l, place-below s.last d, out-most calls s);
    }

-- of two cuts of a list, the later one
later-cut : (a b c e : List Job) → a ++ b ≡ c ++ e → length a ≤ length c → c ≡ a ++ drop (length a) c
later-cut a b c e h l =
    sym (take-append-drop (length a) c)
    ∙ ap (λ (f : List Job). f ++ drop (length a) c) (sym (take-append-le (length a) c e l) ∙ ap (take (length a)) (sym h) ∙ take-append_seam a b)

-- after 32 hand-outs all that waited are handed out
all-served : (s : State) (calls : List Call) (d : ℕ) → d < 8 → length (s.queue d) ≤ 4 → 32 ≤ hand_outs calls
    → (more : List Job) × (handed d (log s calls) ≡ s.queue d ++ more)
all-served s calls d h f o =
    let l : length (s.queue d) ≤ length (handed d (log s calls)) =
    le_of_not_lt (λ m. omega (arith, f, o, place-below s.last d, waits calls s d (length (handed d (log s calls))) h m (omega arith))) in
    (_, later-cut (s.queue d) _ _ _ (conserved calls s d) l)

served : (before calls : List Call) (d : ℕ) → d < 8 → 32 ≤ hand_outs calls
    → (more : List Job) × (handed d (log empty (before ++ calls)) ≡ accepted d (log empty before) ++ more)
served before calls d h o =
    let s = after empty before in
    let a = all-served s calls d h (four before d) o in (
      a.0,
      ap (handed d) (log-append empty before calls)
          ∙ flat_map-append (handed_in d) (log empty before) (log s calls)
          ∙ ap (λ (l : List Job). handed d (log empty before) ++ l) a.1
          ∙ sym (append_assoc (handed d (log empty before)) (s.queue d) a.0)
          ∙ ap (λ (l : List Job). l ++ a.0) (sym (order before d)),
    )

numbers : (calls : List Call) (d : ℕ) (older : List Job) (job : Job) (younger : List Job)
    → accepted d (log empty calls) ≡ older ++ job ∷ younger → job.number ≡ length older % 4294967295 + 1
unfolding empty next_number
numbers calls d older job younger e =
    omega (arith, given-number (attempts d (log empty calls)) (empty.counter d) 0 older job younger refl (sym (accepted-given calls empty d) ∙ e))

-- of the numbers of four jobs in a row no two are the same
distinct : (calls : List Call) (d : ℕ) (older : List Job) (one : Job) (between : List Job) (other : Job) (younger : List Job)
    → (after empty calls).queue d ≡ older ++ one ∷ (between ++ other ∷ younger) → one.number ≢ other.number
distinct calls d older one between other younger e same =
    let l : List Job = handed d (log empty calls) ++ older in
    let a = order calls d ∙ ap (λ (q : List Job). handed d (log empty calls) ++ q) e ∙ sym (append_assoc (handed d (log empty calls)) older _) in
    let few = ap length e ∙ length-append older (one ∷ (between ++ other ∷ younger)) in
    let m = numbers calls d l one (between ++ other ∷ younger) a in
    let n = numbers calls d (l ++ one ∷ between) other younger (a ∙ sym (append_assoc l (one ∷ between) (other ∷ younger))) in
    omega (arith, same, m, n, length-append l (one ∷ between), four calls d, few, length-append between (other ∷ younger))

independent : (one other : List Call) (d : ℕ) → attempts d (log empty one) ≡ attempts d (log empty other) → accepted d (log empty one) ≡ accepted d (log empty other)
independent one other d e = accepted-given one empty d ∙ ap (given (empty.counter d)) e ∙ sym (accepted-given other empty d)

pub claim : Claim
claim = record {
  four = four;
  order = order;
  exact = λ before. exact (after empty before);
  most = λ p. at_most p _ (omega arith);
  seven = at_most 0 _ (omega arith);
  served = λ before calls d h o. served before calls d h (omega (arith, o));
  numbers = numbers;
  distinct = distinct;
  independent = independent;
}
