-- The sequence in which overloads are looked for, whatever makes one. "Steps ascending, within a step links ascending, 7 before 8."
use Rattle.std.specs.Prelude.{ℕ, suc, Bool}
use Rattle.std.proofs.Math.Option.{Option, or_else}
use Rattle.model.specs.Search.{only_if, first}
use Rattle.model.specs.declared.Cause.{Cause}
use Rattle.model.specs.declared.Cause.TheVariants.{OverProtected as over_protected, OverTotal as over_total}

-- the two bounds on a link's load: "the first bound belongs to refusal 7, the second to 8"
pub data Bound : Type 0 where
  protected total : Bound

abbrev pub cause : Bound → Cause
cause protected = over_protected
cause total = over_total

-- the bound, the row that the step leads from, and the link
pub record Overload : Type 0 where
  pub bound : Bound
  pub from : ℕ
  pub link : ℕ

-- "Step a leads from row a-1 to row a": a step is numbered by the row that it leads to
abbrev pub step : Overload → ℕ
step o = suc o.from

-- `bad i l b`: in the step that leads from row i, link l breaks the bound b
unfoldable pub test : (ℕ → ℕ → Bound → Bool) → ℕ → ℕ → Bound → Option Overload
test bad i l b = only_if (bad i l b) (record { bound = b; from = i; link = l })

unfoldable pub test_link : (ℕ → ℕ → Bound → Bool) → ℕ → ℕ → Option Overload
test_link bad i l = or_else (test bad i l protected) (test bad i l total)

unfoldable pub scan : ℕ → ℕ → (ℕ → ℕ → Bound → Bool) → Option Overload
scan steps links bad = first steps (λ i. first links (test_link bad i))
