-- What the inner functions of the code ask for and give. No promise cites these.
use Rattle.std.specs.Prelude.{ℕ, ◌≡◌}
use mathlib.Core.List.{List, flat_map}
use Rattle.std.proofs.Math.Option.{none}
use Rattle.model.specs.Listed.{listed}
use Rattle.model.specs.Rule.{first_overload}
use Rattle.lists.specs.Lists.{network_of, plan_of}
use Rattle.amounts.specs.Rows.{Checkable}
use Rattle.fields.specs.Columns.{line}

-- a network and a plan that the checker accepts
pub record Accepted (n p : List ℕ) : Type 0 where
  pub both : Checkable n p
  pub kept : first_overload 1 (network_of n) (plan_of p) ≡ none

-- n lines, one after the other
unfoldable pub block : ℕ → (ℕ → List (List ℕ)) → List ℕ
unfolding flat_map
block n fields = flat_map line (listed n fields)
