-- The first answer of a search that goes up from 0.
use Rattle.std.specs.Prelude.{ℕ, zero, suc, Bool, true, false, cond}
use Rattle.std.proofs.Math.Option.{Option, none, some, or_else}

-- the answer a, where the test passes
unfoldable pub only_if {ℓ} : {A : Type ℓ} → Bool → A → Option A
only_if b a = cond b (some a) none

unfoldable pub is_none {ℓ} : {A : Type ℓ} → Option A → Bool
is_none none = true
is_none (some a) = false

-- the first answer among f 0, f 1, .. f (n - 1), if there is one
unfoldable pub first {ℓ} : {A : Type ℓ} → ℕ → (ℕ → Option A) → Option A
first zero f = none
first (suc n) f = or_else (first n f) (f n)
