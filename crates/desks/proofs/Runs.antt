-- Laws of runs, from any state on.
use Prim.Native.Nat.{ℕ, suc, ◌+◌, ◌-◌, ◌*◌, ◌≤◌, ◌<◌}
use mathlib.Core.Path.{◌≡◌, refl, sym, ap, ◌∙◌}
use mathlib.Core.Bool.{cond}
use mathlib.Core.List.{List, [], ◌∷◌, ◌++◌, append_assoc, append-nil, flat_map}
use native.Mathlib.Omega.{arith}
use lib.ListN.{length, length-append}
use Rattle.desks.specs.State.{Job, State, Handed, Work, replaced, joined, next_job, served, hand_of, submitted}
use Rattle.model.proofs.Searches.{le_of_not_lt}
use Rattle.desks.specs.Round.{place_in_round}
use Rattle.desks.specs.Run.{Call, submit, hand_out, Event, submission, hand, event, next, log, after, accepted_in, handed_in, out_in, accepted, handed, out, hand_outs}
use Rattle.desks.proofs.States.{by-submit, by-hand-out, IsFirst, first-work, no-work, by-desk}
use Rattle.desks.proofs.Rounds.{place-served, place_after, place_other}

-- ---- one run after another
pub after-append : (s : State) (xs ys : List Call) → after s (xs ++ ys) ≡ after (after s xs) ys
unfolding after
after-append s [] ys = refl
after-append s (x ∷ xs) ys = after-append (next x s) xs ys

pub log-append : (s : State) (xs ys : List Call) → log s (xs ++ ys) ≡ log s xs ++ log (after s xs) ys
unfolding log after
log-append s [] ys = refl
log-append s (x ∷ xs) ys = ap (λ (l : List Event). event x s ∷ l) (log-append (next x s) xs ys)

-- ---- at most four wait
four-in : (c : Call) (s : State) (d : ℕ) → length (s.queue d) ≤ 4 → length ((next c s).queue d) ≤ 4
unfolding joined replaced hand_of
four-in (submit desk tag) s d h =
    by-submit desk tag s (λ r. length (r.state.queue d) ≤ 4) (λ c place. h)
    (λ k l. by-desk d desk (λ b. length (cond b (s.queue desk ++ next_job desk tag s ∷ []) (s.queue d)) ≤ 4)
    (λ e. omega (arith, l, length-append (s.queue desk) (next_job desk tag s ∷ [])))
    (λ e. h))
four-in hand_out s d h =
    by-hand-out s (λ r. length (r.state.queue d) ≤ 4) (λ n. h)
    (λ w f. by-desk d w.desk (λ b. length (cond b w.others (s.queue d)) ≤ 4)
    (λ e. omega (arith, h, ap length (ap s.queue e ∙ (first-work s w f).has)))
    (λ e. h))

pub four-wait : (calls : List Call) (s : State) (d : ℕ) → length (s.queue d) ≤ 4 → length ((after s calls).queue d) ≤ 4
unfolding after
four-wait [] s d h = h
four-wait (c ∷ calls) s d h = four-wait calls (next c s) d (four-in c s d h)

-- ---- of a desk, what waits and what is accepted is what is handed out and what waits then, in this order
conserved-in : (c : Call) (s : State) (d : ℕ) → s.queue d ++ accepted_in d (event c s) ≡ handed_in d (event c s) ++ (next c s).queue d
unfolding joined replaced hand_of
conserved-in (submit desk tag) s d =
    by-submit desk tag s (λ r. s.queue d ++ accepted_in d (submission desk tag r.answer) ≡ r.state.queue d)
    (λ c place. append-nil (s.queue d))
    (λ k l. by-desk d desk (λ b. s.queue d ++ cond b (next_job desk tag s ∷ []) [] ≡ cond b (s.queue desk ++ next_job desk tag s ∷ []) (s.queue d))
    (λ e. ap (λ (i : ℕ). s.queue i ++ next_job desk tag s ∷ []) e)
    (λ e. append-nil (s.queue d)))
conserved-in hand_out s d =
    by-hand-out s (λ r. s.queue d ++ [] ≡ handed_in d (hand r.answer) ++ r.state.queue d)
    (λ n. append-nil (s.queue d))
    (λ w f. by-desk d w.desk (λ b. s.queue d ++ [] ≡ cond b (w.oldest ∷ []) [] ++ cond b w.others (s.queue d))
    (λ e. append-nil (s.queue d) ∙ ap s.queue e ∙ (first-work s w f).has)
    (λ e. append-nil (s.queue d)))

pub conserved : (calls : List Call) (s : State) (d : ℕ) → s.queue d ++ accepted d (log s calls) ≡ handed d (log s calls) ++ (after s calls).queue d
unfolding log after flat_map
conserved [] s d = append-nil (s.queue d)
conserved (c ∷ calls) s d =
    sym (append_assoc (s.queue d) (accepted_in d (event c s)) _)
    ∙ ap (λ (l : List Job). l ++ accepted d (log (next c s) calls)) (conserved-in c s d)
    ∙ append_assoc (handed_in d (event c s)) ((next c s).queue d) _
    ∙ ap (λ (l : List Job). handed_in d (event c s) ++ l) (conserved calls (next c s) d)
    ∙ sym (append_assoc (handed_in d (event c s)) _ _)

-- ---- the jobs handed out are no more than the hand-outs
out-in : (s : State) → length (out_in (event hand_out s)) ≤ 1
unfolding hand_of
out-in s = by-hand-out s (λ r. length (out_in (hand r.answer)) ≤ 1) (λ n. omega arith) (λ w f. omega arith)

pub out-most : (calls : List Call) (s : State) → length (out (log s calls)) ≤ hand_outs calls
unfolding log flat_map hand_outs
out-most [] s = omega arith
out-most (submit desk tag ∷ calls) s = out-most calls (next (submit desk tag) s)
out-most (hand_out ∷ calls) s =
    omega (arith, out-in s, out-most calls (next hand_out s), length-append (out_in (event hand_out s)) (out (log (next hand_out s) calls)))

-- ---- how long a job waits

-- a submission leaves the round, and a queue does not get shorter
submit-keeps : (desk tag : ℕ) (s : State) (d : ℕ)
    → ((submitted desk tag s).state.last ≡ s.last) × (length (s.queue d) ≤ length ((submitted desk tag s).state.queue d))
unfolding joined replaced
submit-keeps desk tag s d =
    by-submit desk tag s (λ r. (r.state.last ≡ s.last) × (length (s.queue d) ≤ length (r.state.queue d)))
    (λ c place. (refl, omega arith))
    (λ k l. (
      refl,
      by-desk d desk (λ b. length (s.queue d) ≤ length (cond b (s.queue desk ++ next_job desk tag s ∷ []) (s.queue d)))
          (λ e. omega (arith, length-append (s.queue desk) (next_job desk tag s ∷ []), ap (λ (i : ℕ). length (s.queue i)) e))
          (λ e. omega arith),
    ))

-- A hand-out while desk d has work takes its oldest job or that of a desk that comes earlier: what it gives, what it gives of desk d, what then waits
-- of desk d, and the state.
pub by_turn : (s : State) (d : ℕ) → d < 8 → 0 < length (s.queue d) → (P : List Handed → List Job → List Job → State → Type 0)
    → ((w : Work) → IsFirst s w → d ≡ w.desk → P (record { desk = w.desk; job = w.oldest } ∷ []) (w.oldest ∷ []) w.others (served s w))
    → ((w : Work) → IsFirst s w → place_in_round s.last w.desk < place_in_round s.last d
    → P (record { desk = w.desk; job = w.oldest } ∷ []) [] (s.queue d) (served s w))
    → P (out_in (event hand_out s)) (handed_in d (event hand_out s)) ((next hand_out s).queue d) (next hand_out s)
unfolding hand_of replaced
by_turn s d h q P own earlier =
    by-hand-out s (λ r. P (out_in (hand r.answer)) (handed_in d (hand r.answer)) (r.state.queue d) r.state)
    (λ n. absurd (omega (arith, q, ap length (no-work s n d h))))
    (λ w f.
    let i = first-work s w f in
    by-desk d w.desk
    (λ b. P (record { desk = w.desk; job = w.oldest } ∷ []) (cond b (w.oldest ∷ []) []) (cond b w.others (s.queue d)) (served s w))
    (own w i)
    (λ o.
    let no-later : place_in_round s.last w.desk ≤ place_in_round s.last d = le_of_not_lt (λ l. omega (arith, q, ap length (i.passed d h l))) in
    earlier w i (omega (arith, no-later, place_other s.last d w.desk h i.below o))))

-- A job with p older ones of its desk: while it waits, the hand-outs called are at most 8p and its desk's place in the round.
pub waits : (calls : List Call) (s : State) (d p : ℕ) → d < 8 → p < length (s.queue d) → length (handed d (log s calls)) ≤ p
    → hand_outs calls ≤ 8 * p + place_in_round s.last d
unfolding log flat_map hand_outs
waits [] s d p h q l = omega arith
waits (submit desk tag ∷ calls) s d p h q l =
    let u = submit-keeps desk tag s d in
    omega (arith, waits calls (submitted desk tag s).state d p h (omega (arith, u.1, q)) l, ap (λ (i : ℕ). place_in_round i d) u.0)
waits (hand_out ∷ calls) s d p h q l =
    by_turn s d h (omega (arith, q))
    (λ given own queue t. t.queue d ≡ queue → length (own ++ handed d (log t calls)) ≤ p → suc (hand_outs calls) ≤ 8 * p + place_in_round s.last d)
    (λ w i o e k.
    let n = ap length (ap s.queue o ∙ i.has) in
    let r = waits calls (served s w) d (p - 1) h (omega (arith, q, n, k, ap length e)) (omega (arith, k)) in
    omega (arith, r, k, ap (λ (x : ℕ). place_in_round x d) (sym o), place-served d h))
    (λ w i b e k.
    let r = waits calls (served s w) d p h (omega (arith, q, ap length e)) k in
    omega (arith, r, place_after s.last w.desk d i.below h b))
    refl l
