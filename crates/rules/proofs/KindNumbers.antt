-- Two kinds are the same where their numbers are.
use Prim.Native.Nat.{◌-◌, ◌≤◌}
use mathlib.Core.Path.{◌≡◌, refl, sym, ap, subst⁻¹, ◌∙◌}
use mathlib.Core.Logic.{◌≢◌}
use mathlib.Core.Bool.{Bool, true, false, not, true≢false}
use native.Mathlib.Omega.{arith}
use lib.Dec.{eqb}
use borrow.Author.Tests.{eq-eqb, ne_eqb, eqb-true, eqb-false}
use mir.Val.{bool_byte}
use Rattle.rules.specs.Rules.{add, remove}
use denote.Enum.Bare.{sameb}
use Rattle.rules.specs.Kinds.{kind_number}
use Rattle.rules.specs.declared.judged.Kind.{Kind}
use Rattle.rules.specs.declared.judged.Kind.TheVariants.{Keep, Add, Remove}
use Rattle.rules.specs.contracts.judged.Kind.{the_type}

pub same-number : (a b : Kind) → sameb the_type a b ≡ eqb (kind_number a) (kind_number b)
same-number Keep Keep = refl
same-number Keep Add = refl
same-number Keep Remove = refl
same-number Add Keep = refl
same-number Add Add = refl
same-number Add Remove = refl
same-number Remove Keep = refl
same-number Remove Add = refl
same-number Remove Remove = refl

-- what `!=` tells
module _ (a b : Kind) (n : Bool) (e : n ≡ not (sameb the_type a b)) where
  pub differ : n ≡ true → kind_number a ≢ kind_number b
  differ h k = true≢false (sym h ∙ e ∙ ap not (same-number a b ∙ eq-eqb _ _ k))

  pub agree : n ≡ false → kind_number a ≡ kind_number b
  agree h = go (eqb (kind_number a) (kind_number b)) refl
    where
      go : (c : Bool) → eqb (kind_number a) (kind_number b) ≡ c → kind_number a ≡ kind_number b
      go true q = eqb-true _ _ q
      go false q = absurd (true≢false (sym (e ∙ ap not (same-number a b ∙ q)) ∙ h))

-- whether a kind that moves is that of the tunnels to add, and what a count has more by then and less by later
pub as-numbers : (k : Kind) (b : Bool) → (add ≤ kind_number k) × (kind_number k ≤ remove) → b ≡ sameb the_type k Add
    → (b ≡ eqb (kind_number k) add) × (bool_byte b ≡ remove - kind_number k) × (bool_byte (not b) ≡ kind_number k - add)
as-numbers Keep b h e = absurd (omega (arith, h))
as-numbers Add b h e = subst⁻¹ (λ (c : Bool). (c ≡ true) × (bool_byte c ≡ 1) × (bool_byte (not c) ≡ 0)) e (refl, refl, refl)
as-numbers Remove b h e = subst⁻¹ (λ (c : Bool). (c ≡ false) × (bool_byte c ≡ 0) × (bool_byte (not c) ≡ 1)) e (refl, refl, refl)
