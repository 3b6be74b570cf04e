-- A run of the code's calls beside one of the same calls in numbers, three each.
use Prim.Native.Nat.{ℕ, zero, suc, ◌+◌, ◌*◌, ◌≤◌, ◌<◌}
use mathlib.Core.Path.{◌≡◌, refl, sym, ap, ap₂, ◌∙◌}
use mathlib.Core.List.{List, [], ◌∷◌, ◌++◌, flat_map}
use native.Mathlib.Nat.{mod-eq_of_lt}
use native.Mathlib.Numerals.{add-one}
use native.Mathlib.Omega.{arith}
use lib.ListN.{length, get_or}
use Rattle.std.specs.Prelude.{⊤}
use Rattle.std.proofs.lemmas.List.{map_more}
use Rattle.model.specs.Listed.{listed}
use Rattle.desks.specs.State.{empty}
use Rattle.desks.specs.Run.{Call, submit, log}
use Rattle.desk_calls.specs.Calls.{call_of}
use Rattle.desk_calls.specs.Numbers.{call_in, calls_of, answers_of, in_numbers}
use Rattle.desk_calls.specs.declared.calls.Call as code
use Rattle.desk_calls.specs.declared.calls.Call.TheVariants.{Submit, HandOut}
use Rattle.desk_calls.proofs.Runs.{first_calls, answered}
use Rattle.desk_calls.proofs.Numbered.{in-submit, in-hand-out, told_by, told-numbers}

-- a call in numbers, and a tag of 32 bits
abbrev pub three_of : code.Call → List ℕ
three_of (Submit desk tag) = 0 ∷ desk ∷ tag ∷ []
three_of HandOut = 1 ∷ 0 ∷ 0 ∷ []

abbrev pub Tagged : code.Call → Type 0
Tagged (Submit desk tag) = tag < 4294967296
Tagged HandOut = ⊤

here : (c : code.Call) (rest : List ℕ) → Tagged c → call_in (three_of c ++ rest) 0 ≡ call_of c
here (Submit desk tag) rest h = in-submit (0 ∷ desk ∷ tag ∷ rest) 0 refl ∙ ap (submit desk) (mod-eq_of_lt h)
here HandOut rest h = in-hand-out (1 ∷ 0 ∷ 0 ∷ rest) 0 (λ e. omega (arith, e))

behind : (c : code.Call) (rest : List ℕ) (k n : ℕ) → n ≡ suc (suc (suc k)) → get_or (three_of c ++ rest) n 0 ≡ get_or rest k 0
behind (Submit desk tag) rest k n e = ap (λ (i : ℕ). get_or (0 ∷ desk ∷ tag ∷ rest) i 0) e
behind HandOut rest k n e = ap (λ (i : ℕ). get_or (1 ∷ 0 ∷ 0 ∷ rest) i 0) e

later : (c : code.Call) (rest : List ℕ) (at n : ℕ) → n ≡ at + 3 → call_in (three_of c ++ rest) n ≡ call_in rest at
unfolding call_in
later c rest at n e =
    let first : n ≡ suc (suc (suc at)) = omega (arith, e) in
    let second : n + 1 ≡ suc (suc (suc (at + 1))) = omega (arith, e) in
    let third : n + 2 ≡ suc (suc (suc (at + 2))) = omega (arith, e) in
    rw (behind c rest at n first, behind c rest (at + 1) (n + 1) second, behind c rest (at + 2) (n + 2) third) refl

call-same : (calls : List code.Call) (i : ℕ) (d : code.Call) → i < length calls → Tagged (get_or calls i d) → call_in (flat_map three_of calls) (3 * i) ≡ call_of (get_or calls i d)
unfolding flat_map
call-same [] i d h t = absurd (omega (arith, h))
call-same (c ∷ calls) zero d h t = here c (flat_map three_of calls) t
call-same (c ∷ calls) (suc i) d h t =
    let on : 3 * suc i ≡ 3 * i + 3 = omega arith in later c (flat_map three_of calls) (3 * i) (3 * suc i) on ∙ call-same calls i d (omega (arith, h)) t

-- calls of the code, in numbers, are the calls
pub calls-same : (calls : List code.Call) (n : ℕ) (d : code.Call) → n ≤ length calls → ((i : ℕ) → i < length calls → Tagged (get_or calls i d)) → calls_of n (flat_map three_of calls) ≡ first_calls calls n
unfolding listed
calls-same calls zero d h t = refl
calls-same calls (suc n) d h t =
    ap₂ (λ (l : List Call) (c : Call). l ++ c ∷ []) (calls-same calls n d (omega (arith, h)) t) (call-same calls n d (omega (arith, h)) (t n (omega (arith, h))))
    ∙ sym (map_more call_of calls n d (omega (arith, h)))
    ∙ ap (first_calls calls) (add-one n)

-- and so the answers told in numbers are those of the code, in numbers
pub told-same : (calls : List code.Call) (n : ℕ) (d : code.Call) → n ≤ length calls → ((i : ℕ) → i < length calls → Tagged (get_or calls i d))
    → told_by (flat_map three_of calls) n ≡ in_numbers (answered calls n)
told-same calls n d h t = ap (λ (l : List Call). answers_of (log empty l)) (calls-same calls n d h t) ∙ sym (told-numbers (log empty (first_calls calls n)))
