-- Laws of a run, call by call.
use Prim.Native.Nat.{ℕ, suc, ◌+◌, ◌≤◌, ◌<◌}
use mathlib.Core.Path.{◌≡◌, refl, sym, ap, ap₂, ◌∙◌}
use mathlib.Core.List.{List, [], ◌∷◌, ◌++◌, map, append_assoc}
use native.Mathlib.Numerals.{add-one}
use native.Mathlib.Omega.{arith}
use lib.ListN.{length, get_or, set, take, drop}
use lib.Seq.{take_at, drop-append-add, drop-drop}
use Rattle.std.proofs.lemmas.List.{map_more, map-append, length-map, length-take, set_split}
use Rattle.desks.specs.State.{State, empty}
use Rattle.desks.specs.Run as model
use Rattle.desks.specs.Run.{event, next, log, after}
use Rattle.desks.proofs.Runs.{log-append, after-append}
use Rattle.desk_calls.specs.Calls.{call_of, told}
use Rattle.desk_calls.specs.declared.calls.Call.{Call}
use Rattle.desk_calls.specs.declared.calls.Answer.{Answer}

-- the model's first i calls, and the answers to them
abbrev pub first_calls : List Call → ℕ → List model.Call
first_calls calls i = map call_of (take i calls)

abbrev pub answered : List Call → ℕ → List Answer
answered calls i = map told (log empty (first_calls calls i))

log-length : (s : State) (calls : List model.Call) → length (log s calls) ≡ length calls
unfolding log
log-length s [] = refl
log-length s (c ∷ calls) = ap suc (log-length (next c s) calls)

pub answered-length : (calls : List Call) (i : ℕ) → i ≤ length calls → length (answered calls i) ≡ i
answered-length calls i h =
    length-map (log empty (first_calls calls i)) told ∙ log-length empty (first_calls calls i) ∙ length-map (take i calls) call_of ∙ omega (arith, length-take i calls, h)

-- one call more
module _ (calls : List Call) (i : ℕ) (d : Call) (h : i < length calls) where
  pub after_more : after empty (first_calls calls (i + 1)) ≡ next (call_of (get_or calls i d)) (after empty (first_calls calls i))
  unfolding after
  after_more = ap (after empty) (map_more call_of calls i d h) ∙ after-append empty (first_calls calls i) (call_of (get_or calls i d) ∷ [])

  answered_more : answered calls (i + 1) ≡ answered calls i ++ told (event (call_of (get_or calls i d)) (after empty (first_calls calls i))) ∷ []
  unfolding log
  answered_more =
      ap (λ l. map told (log empty l)) (map_more call_of calls i d h)
      ∙ ap (map told) (log-append empty (first_calls calls i) (call_of (get_or calls i d) ∷ []))
      ∙ map-append told (log empty (first_calls calls i)) (event (call_of (get_or calls i d)) (after empty (first_calls calls i)) ∷ [])

  -- its answer, put behind those before it
  pub put_more : (answers before : List Answer) (a : Answer) → i < length answers → answers ≡ answered calls i ++ drop i before
      → a ≡ told (event (call_of (get_or calls i d)) (after empty (first_calls calls i)))
      → set answers i a ≡ answered calls (i + 1) ++ drop (i + 1) before
  put_more answers before a l e f =
      let n = answered-length calls i (omega (arith, h)) in
      let front : take i answers ≡ answered calls i = ap (take i) e ∙ take_at (answered calls i) (drop i before) i n in
      let back : drop (suc i) answers ≡ drop (i + 1) before =
      ap₂ (λ (k : ℕ) (m : List Answer). drop k m) (sym (add-one i)) e
      ∙ ap (λ (k : ℕ). drop (k + 1) (answered calls i ++ drop i before)) (sym n)
      ∙ drop-append-add (answered calls i) (drop i before) 1
      ∙ drop-drop 1 i before
      in
      set_split answers i a l
      ∙ ap₂ (λ (x y : List Answer). x ++ a ∷ y) front back
      ∙ sym (append_assoc (answered calls i) (a ∷ []) (drop (i + 1) before))
      ∙ ap (λ (x : List Answer). x ++ drop (i + 1) before) (ap (λ (y : Answer). answered calls i ++ y ∷ []) f ∙ sym answered_more)
