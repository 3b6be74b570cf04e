-- The rows of a pair: n and p are the lists inside, s the two that a clause sees.
use Prim.Native.Nat.{ℕ, ◌*◌, ◌<◌}
use mathlib.Core.Path.{◌≡◌, sym, ap, ap₂, ◌∙◌}
use mathlib.Core.List.{List}
use Rattle.model.specs.Net.{row}
use Rattle.model.proofs.Rows.{row_first, row_last, row-between}
use Rattle.lists.specs.Lists.{network_of, plan_of}
use Rattle.amounts.specs.Lists.{Lists}

module _ (n p : List ℕ) (s : Lists) (e : record { network = n; plan = p } ≡ s) (a t x : ℕ) where
  seen : row (network_of n) (plan_of p) a t ≡ row (network_of s.network) (plan_of s.plan) a t
  seen = ap (λ (r : Lists). row (network_of r.network) (plan_of r.plan) a t) e

  pub old-row : (parts : ℕ) → parts ≡ (plan_of p).parts → x ≡ (network_of n).old t → a ≡ 0 → parts * x ≡ row (network_of s.network) (plan_of s.plan) a t
  old-row parts q h z = ap₂ ◌*◌ q h ∙ sym (row_first (network_of n) (plan_of p) a t z) ∙ seen

  pub new-row : (parts : ℕ) → parts ≡ (plan_of p).parts → x ≡ (network_of n).new t → a ≡ (plan_of p).steps → 0 < a → parts * x ≡ row (network_of s.network) (plan_of s.plan) a t
  new-row parts q h z k = ap₂ ◌*◌ q h ∙ sym (row_last (network_of n) (plan_of p) a t z k) ∙ seen

  pub listed-row : x ≡ (plan_of p).at a t → 0 < a → a < (plan_of p).steps → x ≡ row (network_of s.network) (plan_of s.plan) a t
  listed-row h k l = h ∙ sym (row-between (network_of n) (plan_of p) a t k l) ∙ seen
