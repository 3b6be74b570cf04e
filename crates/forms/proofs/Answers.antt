-- Laws of answers: what an answer tells of an outcome.
use mathlib.Core.Path.{◌≡◌, refl}
use mathlib.Core.List.{List}
use Prim.Native.Nat.{ℕ}
use native.Mathlib.Omega.{arith}
use lib.ListN.{length}
use Rattle.model.specs.Outcome.{Outcome, good, refused, and_then}
use Rattle.lists.specs.Answers.{done, with_room, lent}
use Rattle.lists.specs.declared.Answer.{Answer}
use Rattle.lists.specs.declared.Answer.TheVariants.{Done}

pub done-good : (o : Outcome (List ℕ)) (n : ℕ) → done o ≡ Done n → (l : List ℕ) × (o ≡ good l) × (length l ≡ n)
done-good (good l) n e = (l, refl, cc)
done-good (refused c a b) n e = let z : ◌≡◌ {A = ℕ} 0 1 = cc in absurd (omega arith)

-- an answer that is not done. It is what the `else` of `let Answer::Done(n) = a else { .. }` knows
abbrev pub NotDone : Answer → Type 0
NotDone a = (n : ℕ) → a ≡ Done n → ⊥

-- a refusal stands, whatever would come after
pub refused-then : (o : Outcome (List ℕ)) (next : List ℕ → Outcome (List ℕ)) (a : Answer) → a ≡ done o → NotDone a → a ≡ done (and_then o next)
refused-then (good l) next a e t = absurd (t (length l) e)
refused-then (refused c place second) next a e t = e

-- and whatever the room, and leaves all
pub refused-room : (o : Outcome (List ℕ)) (a : Answer) (out : List ℕ) → a ≡ done o → NotDone a
    → (a ≡ done (with_room (length out) o)) × (out ≡ lent (with_room (length out) o) out)
refused-room (good l) a out e t = absurd (t (length l) e)
refused-room (refused c place second) a out e t = (e, refl)
