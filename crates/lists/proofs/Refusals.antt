-- Laws of results: what one tells of an outcome, and which answer is made of it.
use Prim.Native.Nat.{ℕ}
use mathlib.Core.Path.{◌≡◌, refl, sym, ap, ◌∙◌}
use mathlib.Core.List.{List}
use native.Mathlib.Omega.{arith}
use lib.ListN.{length}
use Rattle.std.specs.declared.result.Result.{Result}
use Rattle.std.specs.declared.result.Result.TheVariants.{Ok, Err}
use Rattle.model.specs.Outcome.{Outcome, good, refused, and_then}
use Rattle.lists.specs.declared.refusal.Refusal.{Refusal}
use Rattle.lists.specs.declared.Answer.TheVariants.{Refused}
use Rattle.lists.specs.Answers.{done, plan, with_room, lent}
use Rattle.lists.specs.Refusals.{judged, counted, done_with, plan_with}

-- ---- the answer made of a result is that of the outcome

pub done-same : (o : Outcome (List ℕ)) → done_with (counted o) ≡ done o
done-same (good l) = refl
done-same (refused c place second) = refl

pub plan-same : (o : Outcome (List ℕ)) → plan_with (counted o) ≡ plan o
plan-same (good l) = refl
plan-same (refused c place second) = refl

-- ---- what `Ok` tells

pub judged-good : (o : Outcome (List ℕ)) (l : List ℕ) → judged o ≡ Ok l → o ≡ good l
judged-good (good g) l e = let s : g ≡ l = cc in ap good s
judged-good (refused c place second) l e = let z : ◌≡◌ {A = ℕ} 0 1 = cc in absurd (omega arith)

pub counted-good : (o : Outcome (List ℕ)) (n : ℕ) → counted o ≡ Ok n → (l : List ℕ) × (o ≡ good l) × (length l ≡ n)
counted-good (good l) n e = (l, refl, cc)
counted-good (refused c place second) n e = let z : ◌≡◌ {A = ℕ} 0 1 = cc in absurd (omega arith)

-- ---- what `Err` tells: the refusal stands, whatever would come after and whatever the room, and leaves all

module _ (r : Refusal) where
  pub judged-stands : (o : Outcome (List ℕ)) → judged o ≡ Err r → counted o ≡ Err r
  judged-stands (good l) e = let z : ◌≡◌ {A = ℕ} 0 1 = cc in absurd (omega arith)
  judged-stands (refused c place second) e = cc

  pub err-then : (o : Outcome (List ℕ)) (next : List ℕ → Outcome (List ℕ)) → counted o ≡ Err r → counted (and_then o next) ≡ Err r
  err-then (good l) next e = let z : ◌≡◌ {A = ℕ} 0 1 = cc in absurd (omega arith)
  err-then (refused c place second) next e = e

  pub err-room : (o : Outcome (List ℕ)) (out : List ℕ) → counted o ≡ Err r → (counted (with_room (length out) o) ≡ Err r) × (lent (with_room (length out) o) out ≡ out)
  err-room (good l) out e = let z : ◌≡◌ {A = ℕ} 0 1 = cc in absurd (omega arith)
  err-room (refused c place second) out e = (e, refl)
