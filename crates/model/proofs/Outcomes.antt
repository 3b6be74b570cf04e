-- What a good outcome tells of the outcomes that it came from.
use Prim.Native.Nat.{ℕ}
use mathlib.Core.Path.{◌≡◌, refl}
use mathlib.Core.Bool.{Bool, true, false, cond}
use native.Mathlib.Omega.{arith}
use Rattle.model.specs.Outcome.{Outcome, good, refused, and_then}
use Rattle.model.specs.declared.Cause.{Cause}

pub good-refused : {A : Type 0} (a : A) (c : Cause) (place second : ℕ) → refused c place second ≡ good a → ⊥
good-refused a c place second e = let z : ◌≡◌ {A = ℕ} 0 1 = cc in omega arith

pub then-good : {A B : Type 0} (o : Outcome A) (next : A → Outcome B) (b : B) → and_then o next ≡ good b → (a : A) × (o ≡ good a) × (next a ≡ good b)
then-good (good a) next b e = (a, refl, e)
then-good (refused c place second) next b e = absurd (good-refused b c place second e)

-- of a test whose other branch is a refusal
pub cond-good : {A : Type 0} (t : Bool) (o : Outcome A) (c : Cause) (place second : ℕ) (a : A) → cond t o (refused c place second) ≡ good a → (t ≡ true) × (o ≡ good a)
cond-good true o c place second a e = (refl, e)
cond-good false o c place second a e = absurd (good-refused a c place second e)

pub good-same : {A : Type 0} (a b : A) → good a ≡ good b → a ≡ b
good-same a b e = cc
