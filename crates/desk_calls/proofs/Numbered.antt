-- Laws of a run in numbers.
use Prim.Native.Nat.{ℕ, suc, ◌+◌, ◌*◌, ◌%◌, ◌≤◌}
use mathlib.Core.Path.{◌≡◌, refl, sym, ap, ap₂, subst, ◌∙◌}
use mathlib.Core.List.{List, [], ◌∷◌, ◌++◌, append-nil, flat_map, map}
use native.Mathlib.Numerals.{add-one}
use native.Mathlib.Omega.{arith}
use borrow.Author.Tests.{eq-eqb, ne_eqb}
use lib.ListN.{length, get_or, set, take, drop, length-append}
use lib.Seq.{take_at, drop-append-add, drop-drop, sets-eq}
use Rattle.model.specs.Outcome.{good, refused}
use Rattle.model.specs.Listed.{listed}
use Rattle.model.proofs.Listed.{listed-length, flat_map-append}
use Rattle.desks.specs.State.{State, empty}
use Rattle.desks.specs.Run.{Call, submit, hand_out, Event, submission, hand, event, next, log, after}
use Rattle.desk_calls.specs.Calls.{told}
use Rattle.desk_calls.specs.Numbers.{call_in, calls_of, four_of, answers_of, four_of_answer, in_numbers}
use Rattle.desk_calls.specs.declared.calls.Call as code
use Rattle.desk_calls.specs.declared.calls.Answer.{Answer}
use Rattle.desk_calls.proofs.Runs.{first_calls, answered, answered-length}
use Rattle.desks.proofs.Runs.{log-append, after-append}

-- ---- the answers of a log
four-numbers : (e : Event) → ◌≡◌ {A = ℕ} (length (four_of e)) 4
four-numbers (submission desk tag (good n)) = refl
four-numbers (submission desk tag (refused c place second)) = refl
four-numbers (hand (good h)) = refl
four-numbers (hand (refused c place second)) = refl

answers-length : (s : State) (calls : List Call) → length (answers_of (log s calls)) ≡ 4 * length calls
unfolding flat_map log
answers-length s [] = refl
answers-length s (c ∷ calls) =
    length-append (four_of (event c s)) (answers_of (log (next c s) calls)) ∙ omega (arith, four-numbers (event c s), answers-length (next c s) calls)

-- ---- a call by its kind
pub in-submit : (l : List ℕ) (at : ℕ) → get_or l at 0 ≡ 0 → call_in l at ≡ submit (get_or l (at + 1) 0) (get_or l (at + 2) 0 % 4294967296)
unfolding call_in
in-submit l at e = simp (eq-eqb (get_or l at 0) 0 e)

pub in-hand-out : (l : List ℕ) (at : ℕ) → (get_or l at 0 ≡ 0 → ⊥) → call_in l at ≡ hand_out
unfolding call_in
in-hand-out l at e = simp (ne_eqb (get_or l at 0) 0 e)

-- ---- the calls so far, and one more
abbrev pub told_by : List ℕ → ℕ → List ℕ
told_by calls i = answers_of (log empty (calls_of i calls))

pub told-length : (calls : List ℕ) (i : ℕ) → length (told_by calls i) ≡ 4 * i
told-length calls i = answers-length empty (calls_of i calls) ∙ ap (λ n. 4 * n) (listed-length i (λ k. call_in calls (3 * k)))

pub after_none : (calls : List ℕ) → after empty (calls_of 0 calls) ≡ empty
unfolding listed after
after_none calls = refl

pub after_more : (calls : List ℕ) (i : ℕ) → after empty (calls_of (i + 1) calls) ≡ next (call_in calls (3 * i)) (after empty (calls_of i calls))
unfolding listed after
after_more calls i = ap (λ n. after empty (calls_of n calls)) (add-one i) ∙ after-append empty (calls_of i calls) (call_in calls (3 * i) ∷ [])

told_more : (calls : List ℕ) (i : ℕ) → told_by calls (i + 1) ≡ told_by calls i ++ four_of (event (call_in calls (3 * i)) (after empty (calls_of i calls)))
unfolding listed log flat_map
told_more calls i =
    ap (told_by calls) (add-one i)
    ∙ ap answers_of (log-append empty (calls_of i calls) (call_in calls (3 * i) ∷ []))
    ∙ flat_map-append four_of (log empty (calls_of i calls)) (event (call_in calls (3 * i)) (after empty (calls_of i calls)) ∷ [])
    ∙ ap (λ (l : List ℕ). told_by calls i ++ l) (append-nil _)

-- at first, and with four numbers more in their place
pub told_none : (calls answers : List ℕ) → answers ≡ told_by calls 0 ++ drop (4 * 0) answers
unfolding listed log flat_map
told_none calls answers = refl

pub told-on : (calls first answers four : List ℕ) (i : ℕ) → answers ≡ told_by calls i ++ drop (4 * i) first
    → four ≡ four_of (event (call_in calls (3 * i)) (after empty (calls_of i calls)))
    → take (4 * i) answers ++ four ++ drop (4 * i + 4) answers ≡ told_by calls (i + 1) ++ drop (4 * (i + 1)) first
told-on calls first answers four i e f =
    let front : take (4 * i) answers ≡ told_by calls i = ap (take (4 * i)) e ∙ take_at (told_by calls i) (drop (4 * i) first) (4 * i) (told-length calls i) in
    let on : 4 * i + 4 ≡ 4 * (i + 1) = omega arith in
    let back : drop (4 * i + 4) answers ≡ drop (4 * (i + 1)) first =
    ap (drop (4 * i + 4)) e
    ∙ ap (λ n. drop (n + 4) (told_by calls i ++ drop (4 * i) first)) (sym (told-length calls i))
    ∙ drop-append-add (told_by calls i) (drop (4 * i) first) 4
    ∙ drop-drop 4 (4 * i) first
    ∙ ap (λ n. drop n first) on in
    ap₂ (λ (x y : List ℕ). x ++ four ++ y) front back
    ∙ ap (λ (l : List ℕ). l ++ drop (4 * (i + 1)) first) (ap (λ (l : List ℕ). told_by calls i ++ l) f ∙ sym (told_more calls i))

-- ---- four stores
abbrev stores : List ℕ → ℕ → List ℕ → List ℕ
stores l at v = set (set (set (set l at (get_or v 0 0)) (at + 1) (get_or v 1 0)) (at + 2) (get_or v 2 0)) (at + 3) (get_or v 3 0)

four-of : (l : List ℕ) → length l ≡ 4 → l ≡ get_or l 0 0 ∷ get_or l 1 0 ∷ get_or l 2 0 ∷ get_or l 3 0 ∷ []
four-of [] h = absurd (omega (arith, h))
four-of (a ∷ []) h = absurd (omega (arith, h))
four-of (a ∷ b ∷ []) h = absurd (omega (arith, h))
four-of (a ∷ b ∷ c ∷ []) h = absurd (omega (arith, h))
four-of (a ∷ b ∷ c ∷ d ∷ []) h = refl
four-of (a ∷ b ∷ c ∷ d ∷ e ∷ l) h = absurd (omega (arith, h))

pub stores-eq : (l v : List ℕ) (at : ℕ) → length v ≡ 4 → at + 4 ≤ length l → stores l at v ≡ take at l ++ v ++ drop (at + 4) l
stores-eq l v at e h =
    let one : at + 1 ≡ suc at = add-one at in
    let two : at + 2 ≡ suc (suc at) = omega arith in
    let three : at + 3 ≡ suc (suc (suc at)) = omega arith in
    ap₂ (λ i j. set (set (set (set l at (get_or v 0 0)) i (get_or v 1 0)) j (get_or v 2 0)) (at + 3) (get_or v 3 0)) one two
    ∙ ap (λ i. set (set (set (set l at (get_or v 0 0)) (suc at) (get_or v 1 0)) (suc (suc at)) (get_or v 2 0)) i (get_or v 3 0)) three
    ∙ sets-eq (get_or v 0 0 ∷ get_or v 1 0 ∷ get_or v 2 0 ∷ get_or v 3 0 ∷ []) l at h
    ∙ ap (λ (w : List ℕ). take at l ++ w ++ drop (at + 4) l) (sym (four-of v e))

-- ---- the answers of the code
told-four : (e : Event) → four_of_answer (told e) ≡ four_of e
told-four (submission desk tag a) = refl
told-four (hand a) = refl

pub told-numbers : (l : List Event) → in_numbers (map told l) ≡ answers_of l
unfolding flat_map map
told-numbers [] = refl
told-numbers (e ∷ l) = ap₂ (λ (x y : List ℕ). x ++ y) (told-four e) (told-numbers l)

-- a run's first n answers, in numbers, are those of its log
pub run-numbers : (calls : List code.Call) (n m : ℕ) (answers rest : List Answer) → n ≤ length calls → answers ≡ answered calls n ++ rest → n ≡ m
    → in_numbers (take m answers) ≡ answers_of (log empty (first_calls calls m))
run-numbers calls n m answers rest h e q =
    subst
    (λ (k : ℕ). in_numbers (take k answers) ≡ answers_of (log empty (first_calls calls k)))
    q
    (ap (λ (l : List Answer). in_numbers (take n l)) e ∙ ap in_numbers (take_at (answered calls n) rest n (answered-length calls n h)) ∙ told-numbers (log empty (first_calls calls n)))
