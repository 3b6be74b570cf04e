-- A state that is lent in parts, and left in them.
use mathlib.Core.Path.{◌≡◌, sym, ap, ◌∙◌, subst}
use Prim.Native.Nat.{ℕ}
use mathlib.Core.List.{List}
use Rattle.model.specs.Outcome.{Outcome}
use Rattle.desks.specs.State.{State, Result}
use Rattle.desks.specs.Seen.{seen, Untouched}
use Rattle.desks.specs.declared.Desks.{Desks}

-- what an operation promises of the state s' that it was given and of t' that it gave, where s and t are the same in parts
pub in_parts : {A : Type 0} (op : State → Result A) (tell : Outcome A → List ℕ) (s s' t t' : Desks) (a : List ℕ) → s' ≡ s → t ≡ t'
    → a ≡ tell (op (seen s')).answer → seen t' ≡ (op (seen s')).state → Untouched (op (seen s')).answer s' t'
    → (a ≡ tell (op (seen s)).answer) × ((seen t ≡ (op (seen s)).state) × Untouched (op (seen s)).answer s t)
in_parts op tell s s' t t' a e l h k f =
    subst (λ x. (a ≡ tell (op (seen x)).answer) × ((seen t ≡ (op (seen x)).state) × Untouched (op (seen x)).answer x t)) e
    (h, (ap seen l ∙ k, subst (Untouched (op (seen s')).answer s') (sym l) f))
