-- The exact number of jobs that go before one: each hand-out before it brings the figure down by one.
use Prim.Native.Nat.{ℕ, zero, suc, ◌+◌, ◌≤◌, ◌<◌, min}
use mathlib.Core.Path.{◌≡◌, refl, sym, ap, ap₂, ◌∙◌, subst}
use mathlib.Core.Logic.{◌≢◌}
use mathlib.Core.Bool.{cond, not}
use mathlib.Core.List.{List, [], ◌∷◌, ◌++◌, flat_map}
use native.Mathlib.Omega.{arith}
use borrow.Author.Tests.{eq-eqb, ne_eqb}
use lib.Dec.{T}
use lib.ListN.{length, length-append, replicate}
use Rattle.model.specs.Sum.{sum_over}
use Rattle.model.proofs.Sums.{sum-cong, sum_more, sum_bound}
use Rattle.desks.specs.Round.{place_in_round, turns, other_than, jobs_before}
use Rattle.desks.specs.State.{Job, State, Handed, Work, replaced, joined, served, before}
use Rattle.desks.specs.Run.{hand_out, event, next, log, handed_in, out_in, handed, out}
use Rattle.desks.specs.Claim.{Exactly}
use Rattle.desks.proofs.Rounds.{place-below, place-served, place_after, place_other, turns-earlier, turns-later}
use Rattle.desks.proofs.States.{IsFirst, by_less}
use Rattle.desks.proofs.Runs.{by_turn}

-- ---- the other desks
is-other : (d e : ℕ) → T (other_than d e) → e ≢ d
is-other d e t h = subst T (ap not (eq-eqb e d h)) t

kept : (s : State) (w : Work) (e : ℕ) → e ≢ w.desk → (served s w).queue e ≡ s.queue e
unfolding replaced
kept s w e h = ap (λ b. cond b w.others (s.queue e)) (ne_eqb e w.desk h)

-- the jobs of another desk that go before a job of desk d with p older ones
abbrev from : State → ℕ → ℕ → ℕ → ℕ
from s d p e = min (length (s.queue e)) (turns s.last d p e)

-- ---- a desk that comes earlier than desk d is served: one job less goes before
module _ (s : State) (d p : ℕ) (w : Work) (h : d < 8) (i : IsFirst s w) (b : place_in_round s.last w.desk < place_in_round s.last d) where
  -- of that desk one less
  one_less : from s d p w.desk ≡ suc (from (served s w) d p w.desk)
  unfolding replaced
  one_less =
      let here = ap (λ c. length (cond c w.others (s.queue w.desk))) (eq-eqb w.desk w.desk refl) in
      let was = turns-earlier s.last d p w.desk b in
      let now = turns-later w.desk d p w.desk (omega (arith, place-served w.desk i.below, place-below w.desk d)) in
      omega (arith, ap length i.has, here, was, now)

  -- of the others as many: those passed have none, and the rest come in the same order as before
  as_many : (e : ℕ) → e < 8 → e ≢ w.desk → from s d p e ≡ from (served s w) d p e
  as_many e k o =
      let q = ap length (kept s w e o) in
      let l = s.last in
      by_less (place_in_round l e) (place_in_round l w.desk) (λ c. from s d p e ≡ from (served s w) d p e)
      (λ passed. omega (arith, q, ap length (i.passed e k passed)))
      (λ m.
      let on-d = place_after l w.desk d i.below h b in
      let on-e = place_after l w.desk e i.below k (omega (arith, m, place_other l e w.desk k i.below o)) in
      by_less (place_in_round l e) (place_in_round l d) (λ c. from s d p e ≡ from (served s w) d p e)
      (λ n. omega (arith, q, turns-earlier l d p e n, turns-earlier w.desk d p e (omega (arith, n, on-d, on-e))))
      (λ n. omega (arith, q, turns-later l d p e n, turns-later w.desk d p e (omega (arith, n, on-d, on-e)))))

  earlier-served : before s d p ≡ suc (before (served s w) d p)
  unfolding jobs_before
  earlier-served =
      let apart = ne_eqb w.desk d (λ e. omega (arith, b, ap (place_in_round s.last) e)) in
      omega (arith, sum_more 8 w.desk (other_than d) i.below (ap not apart) one_less (λ e k t. as_many e k))

-- ---- desk d is served: none that came earlier has work, and then all others come earlier
module _ (s : State) (d p : ℕ) (w : Work) (i : IsFirst s w) (o : d ≡ w.desk) where
  own_first : before s d p ≡ p + sum_over 8 (other_than d) (λ e. min (length (s.queue e)) p)
  unfolding jobs_before
  own_first =
      ap (λ n. p + n)
      (sum-cong 8 (other_than d)
      (λ e k t. by_less (place_in_round s.last e) (place_in_round s.last d) (λ c. from s d p e ≡ min (length (s.queue e)) p)
      (λ n. omega (arith, ap length (i.passed e k (omega (arith, n, ap (place_in_round s.last) o)))))
      (λ n. omega (arith, turns-later s.last d p e n))))

  own-served : before (served s w) d p ≡ p + sum_over 8 (other_than d) (λ e. min (length (s.queue e)) (suc p))
  unfolding jobs_before
  own-served =
      ap (λ n. p + n)
      (sum-cong 8 (other_than d)
      (λ e k t.
      let apart : e ≢ w.desk = λ x. is-other d e t (x ∙ sym o) in
      let last = place-served w.desk i.below in
      let own = ap (place_in_round w.desk) o in
      let first : place_in_round w.desk e < place_in_round w.desk d =
      omega (arith, last, own, place-below w.desk e, place_other w.desk e w.desk k i.below apart) in
      omega (arith, ap length (kept s w e apart), turns-earlier w.desk d p e first)))

own-none : (s : State) (d : ℕ) (w : Work) → IsFirst s w → d ≡ w.desk → before s d 0 ≡ 0
own-none s d w i o = omega (arith, own_first s d 0 w i o, sum_bound 8 (other_than d) (λ e. min (length (s.queue e)) 0) 0 (λ e k. omega arith))

own-one : (s : State) (d p : ℕ) (w : Work) → IsFirst s w → d ≡ w.desk → before s d (suc p) ≡ suc (before (served s w) d p)
own-one s d p w i o = omega (arith, own_first s d (suc p) w i o, own-served s d p w i o)

-- its own older jobs are counted
own-counted : (s : State) (d p : ℕ) → p ≤ before s d p
unfolding jobs_before
own-counted s d p = omega arith

-- ---- the run of hand-outs
-- the figure is 0: the job is its desk's oldest, and it is its desk's turn
exactly-zero : (s : State) (d : ℕ) (older : List Job) (job : Job) (younger : List Job) → d < 8 → s.queue d ≡ older ++ job ∷ younger
    → before s d (length older) ≡ 0 → Exactly 0 s d older job
unfolding log flat_map
exactly-zero s d [] job younger h e f = record {
  jobs = refl;
  own = refl;
  its =
      by_turn s d h (omega (arith, ap length e)) (λ given own queue t. own ++ [] ≡ job ∷ [])
      (λ w i o.
      let l : w.oldest ∷ w.others ≡ job ∷ younger = sym i.has ∙ ap s.queue (sym o) ∙ e in
      let j : w.oldest ≡ job = cc in
      ap (λ x. x ∷ []) j)
      (λ w i b. absurd (omega (arith, f, earlier-served s d 0 w h i b)));
}
exactly-zero s d (x ∷ older) job younger h e f = absurd (omega (arith, f, own-counted s d (length (x ∷ older))))

-- what `Exactly` says once a hand-out gave a job, of desk d or not, and left state t
abbrev Then : ℕ → ℕ → List Job → Job → List Handed → List Job → State → Type 0
Then n d older job given own t =
    (length (given ++ out (log t (replicate n hand_out))) ≡ suc n)
    × (own ++ handed d (log t (replicate n hand_out)) ≡ older)
    × (own ++ handed d (log t (replicate (suc n) hand_out)) ≡ older ++ job ∷ [])

-- the figure is n + 1: after one hand-out it is n
exactly-suc : (n : ℕ) (s : State) (d : ℕ) (older : List Job) (job : Job) (younger : List Job) → d < 8 → s.queue d ≡ older ++ job ∷ younger
    → before s d (length older) ≡ suc n
    → ((t : State) (jobs : List Job) → t.queue d ≡ jobs ++ job ∷ younger → before t d (length jobs) ≡ n → Exactly n t d jobs job) → Exactly (suc n) s d older job
unfolding log flat_map
exactly-suc n s d older job younger h e f on =
    let r : Then n d older job (out_in (event hand_out s)) (handed_in d (event hand_out s)) (next hand_out s) =
    by_turn s d h (omega (arith, ap length e, length-append older (job ∷ younger))) (λ given own queue t. t.queue d ≡ queue → Then n d older job given own t)
    (λ w i o q. own_turn older e f w i o q)
    (λ w i b q. let r = on (served s w) older (q ∙ e) (omega (arith, f, earlier-served s d (length older) w h i b)) in (omega (arith, r.jobs), r.own, r.its))
    refl in
    record { jobs = r.0; own = r.1; its = r.2 }
  where
    own_turn : (jobs : List Job) → s.queue d ≡ jobs ++ job ∷ younger → before s d (length jobs) ≡ suc n
        → (w : Work) → IsFirst s w → d ≡ w.desk → (served s w).queue d ≡ w.others
        → Then n d jobs job (record { desk = w.desk; job = w.oldest } ∷ []) (w.oldest ∷ []) (served s w)
    own_turn [] c g w i o q = absurd (omega (arith, g, own-none s d w i o))
    own_turn (x ∷ jobs) c g w i o q =
        let l : w.oldest ∷ w.others ≡ x ∷ (jobs ++ job ∷ younger) = sym i.has ∙ ap s.queue (sym o) ∙ c in
        let j : w.oldest ≡ x = cc in
        let k : w.others ≡ jobs ++ job ∷ younger = cc in
        let r = on (served s w) jobs (q ∙ k) (omega (arith, g, own-one s d (length jobs) w i o)) in
        (omega (arith, r.jobs), ap₂ (λ y (ys : List Job). y ∷ ys) j r.own, ap₂ (λ y (ys : List Job). y ∷ ys) j r.its)

pub exactly : (n : ℕ) (s : State) (d : ℕ) (older : List Job) (job : Job) (younger : List Job) → d < 8 → s.queue d ≡ older ++ job ∷ younger
    → before s d (length older) ≡ n → Exactly n s d older job
exactly zero s d older job younger h e f = exactly-zero s d older job younger h e f
exactly (suc n) s d older job younger h e f = exactly-suc n s d older job younger h e f (λ t jobs. exactly n t d jobs job younger h)

-- ---- a job that joins its desk's queue: the figure does not count that queue
pub exactly-joined : (s : State) (d : ℕ) (job : Job) → d < 8 → Exactly (before s d (length (s.queue d))) (joined d job s) d (s.queue d) job
unfolding joined replaced jobs_before
exactly-joined s d job h =
    exactly _ (joined d job s) d (s.queue d) job [] h (ap (λ b. cond b (s.queue d ++ job ∷ []) (s.queue d)) (eq-eqb d d refl)) figure
  where
    figure : before (joined d job s) d (length (s.queue d)) ≡ before s d (length (s.queue d))
    figure =
        ap (λ n. length (s.queue d) + n)
        (sum-cong 8 (other_than d)
        (λ e k t. ap (λ b. min (length (cond b (s.queue d ++ job ∷ []) (s.queue e))) (turns s.last d (length (s.queue d)) e)) (ne_eqb e d (is-other d e t))))
