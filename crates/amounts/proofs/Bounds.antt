-- The bounds of the links and their columns: what the loops that fill them prove at each turn.
use Prim.Native.Nat.{ℕ, ◌+◌, ◌≤◌, ◌<◌}
use mathlib.Core.Path.{◌≡◌, ◌∙◌}
use mathlib.Core.List.{List}
use native.Mathlib.Omega.{arith}
use lib.ListN.{length, set, length-set}
use lib.Seq.{get_or-set_same, get_or-set_other}
use Rattle.model.specs.Limits.{most_links}
use Rattle.model.specs.Net.{Net}
use Rattle.loads.proofs.Vectors.{last_or}
use Rattle.amounts.specs.declared.columns.Bounds.{Bounds}
use Rattle.amounts.specs.Columns.{Holds, bounds_of, AllBounds}

module _ (N : Net) (parts n : ℕ) (s : List Bounds) where
  pub bounds-more : (b : Bounds) → n < most_links → b ≡ bounds_of N parts n → AllBounds N parts n s → AllBounds N parts (n + 1) (set s n b)
  bounds-more b h e a = record {
    size = length-set s _ _ ∙ a.size;
    each = λ l k.
        last_or l n k
        (λ q. rw q (get_or-set_same s n b _ (omega (arith, a.size)) ∙ e))
        (λ g. get_or-set_other s n l b _ (λ z. omega arith) ∙ a.each l g);
  }

-- ---- columns

pub holds-none : (xs : List ℕ) (f : ℕ → ℕ) → Holds xs 0 f
holds-none xs f = record { each = λ t h. absurd (omega arith) }

pub holds_more : (xs : List ℕ) (n : ℕ) (f : ℕ → ℕ) (v : ℕ) → n < length xs → v ≡ f n → Holds xs n f → Holds (set xs n v) (n + 1) f
holds_more xs n f v h e a = record {
  each = λ t k.
      last_or t n k
      (λ q. rw q (get_or-set_same xs n v 0 h ∙ e))
      (λ g. get_or-set_other xs n t v 0 (λ z. omega arith) ∙ a.each t g);
}

pub holds_at : (xs : List ℕ) (n m : ℕ) (f : ℕ → ℕ) → Holds xs n f → m ≤ n → Holds xs m f
holds_at xs n m f h k = record { each = λ t ht. h.each t (omega arith) }
