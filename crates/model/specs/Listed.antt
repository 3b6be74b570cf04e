-- Lists of a function's values.
use Rattle.std.specs.Prelude.{ℕ, zero, suc, List, [], ◌∷◌, ◌++◌}

-- x 0, x 1, .. x (n - 1)
unfoldable pub listed : {A : Type 0} → ℕ → (ℕ → A) → List A
listed zero x = []
listed (suc n) x = listed n x ++ x n ∷ []
