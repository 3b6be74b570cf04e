-- What the loads of a link in a step say of the rule.
use Prim.Native.Nat.{ℕ, ◌+◌, ◌*◌, ◌/◌}
use mathlib.Core.Path.{◌≡◌, refl, sym, ap, ◌∙◌}
use mathlib.Core.Logic.{⊎_elim}
use mathlib.Core.Bool.{Bool, true, false}
use mathlib.Core.Option.{none, some, or_else}
use Rattle.std.specs.Prelude.{Option, Some, None}
use native.Mathlib.Omega.{arith}
use lib.Dec.{ltb}
use borrow.Author.Tests.{lt-ltb, le-ltb, ltb-true, ltb-false}
use Rattle.model.specs.Search.{only_if}
use Rattle.model.specs.Net.{Net, Plan}
use Rattle.model.specs.Scan.{Bound, Overload, test, test_link}
use Rattle.model.specs.Rule.{load, exceeds, worst, worst_over}
use Rattle.model.proofs.Searches.{bool_cases}
use Rattle.model.specs.declared.Cause.{Cause}
use Rattle.amounts.specs.Columns.{capacity, raised}
use Rattle.overloads.specs.Inner.{over_cause, over_by, overload_of}

module _ (w : ℕ) (N : Net) (P : Plan) (i l : ℕ) where
  -- the refusal that a link meets in a step
  abbrev pub over_in : Option Cause
  over_in = over_by N P.parts l (load N Bound.protected (worst w N P i l)) (load N Bound.total (worst w N P i l))

  pub over_none : over_in ≡ None → test_link (worst_over w N P) i l ≡ none
  unfolding over_by test_link test worst_over only_if or_else
  over_none e = none_of (exceeds N Bound.protected P.parts l (load N Bound.protected (worst w N P i l))) (exceeds N Bound.total P.parts l (load N Bound.total (worst w N P i l))) e
    where
      none_of : (p t : Bool) → over_cause p t ≡ None
          → or_else {A = Overload} (only_if p (record { bound = Bound.protected; from = i; link = l })) (only_if t (record { bound = Bound.total; from = i; link = l })) ≡ none
      none_of true t e = absurd (cc)
      none_of false true e = absurd (cc)
      none_of false false e = refl

  pub over-some : (x : Cause) → over_in ≡ Some x
      → (o : Overload) × (test_link (worst_over w N P) i l ≡ some o) × (overload_of (some o) ≡ Some (record { cause = x; row = i; link = l }))
  unfolding over_by test_link test worst_over only_if or_else
  over-some x e = some_of (exceeds N Bound.protected P.parts l (load N Bound.protected (worst w N P i l))) (exceeds N Bound.total P.parts l (load N Bound.total (worst w N P i l))) e
    where
      some_of : (p t : Bool) → over_cause p t ≡ Some x
          → (o : Overload)
          × (or_else {A = Overload} (only_if p (record { bound = Bound.protected; from = i; link = l })) (only_if t (record { bound = Bound.total; from = i; link = l })) ≡ some o)
          × (overload_of (some o) ≡ Some (record { cause = x; row = i; link = l }))
      some_of true t e = (record { bound = Bound.protected; from = i; link = l }, refl, cc)
      some_of false true e = (record { bound = Bound.total; from = i; link = l }, refl, cc)
      some_of false false e = absurd (cc)

-- ---- the tests of the two bounds

-- a whole number is over so many thousandths exactly if it is over their whole part
whole-ltb : (x a : ℕ) → ltb (x / 1000) a ≡ ltb x (1000 * a)
whole-ltb x a =
    ⊎_elim
    (λ e. let h = ltb-true x (1000 * a) e in lt-ltb (x / 1000) a (omega (arith, h)) ∙ sym e)
    (λ e. let h = ltb-false x (1000 * a) e in le-ltb (x / 1000) a (omega (arith, h)) ∙ sym e)
    (bool_cases (ltb x (1000 * a)))

pub over-same : (N : Net) (parts l p a : ℕ) → over_cause (ltb (capacity N parts l) p) (ltb (raised N parts l) a) ≡ over_by N parts l p a
unfolding over_by exceeds
over-same N parts l p a = ap (over_cause (ltb (capacity N parts l) p)) (whole-ltb ((1000 + N.overrun) * (parts * N.cap l)) a)
