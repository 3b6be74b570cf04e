-- The laws of the scan for the first overload.
use Prim.Native.Nat.{ℕ, ◌+◌, ◌<◌}
use mathlib.Core.Path.{◌≡◌, refl, sym, ap₂, ◌∙◌, subst}
use mathlib.Core.Logic.{⊎_elim}
use mathlib.Core.Bool.{Bool, true, false, true≢false}
use mathlib.Core.Option.{Option, none, some, or_else}
use native.Mathlib.Omega.{arith}
use Rattle.model.specs.Search.{only_if, first}
use Rattle.model.specs.Scan.{Bound, Overload, test, test_link, scan}
use Rattle.model.proofs.Searches.{option_cases, only-some, only_none, or-none, or_some, first-none, first_some, first_on, first-at, first_cong}

-- the test of a step
abbrev pub test_step : ℕ → (ℕ → ℕ → Bound → Bool) → ℕ → Option Overload
test_step links bad i = first links (test_link bad i)

module _ (steps links : ℕ) (bad : ℕ → ℕ → Bound → Bool) where
  -- what an overload found in the step from row i, on link l, says
  abbrev Found : ℕ → ℕ → Overload → Type 0
  Found i l o = (o.from ≡ i) × (o.link ≡ l) × (bad o.from o.link o.bound ≡ true)

  test-some : (i l : ℕ) (b : Bound) (o : Overload) → test bad i l b ≡ some o → Found i l o
  unfolding test
  test-some i l b o e = let s = only-some (bad i l b) _ o e in subst (Found i l) s.1 (refl, refl, s.0)

  test-none : (i l : ℕ) (b : Bound) → test bad i l b ≡ none → bad i l b ≡ false
  unfolding test
  test-none i l b e = only_none (bad i l b) _ e

  link-some : (i l : ℕ) (o : Overload) → test_link bad i l ≡ some o → Found i l o
  unfolding test_link
  link-some i l o e = ⊎_elim (test-some i l Bound.protected o) (λ q. test-some i l Bound.total o q.1) (or_some _ _ o e)

  link-none : (i l : ℕ) → test_link bad i l ≡ none → (b : Bound) → bad i l b ≡ false
  unfolding test_link
  link-none i l e Bound.protected = test-none i l Bound.protected (or-none _ _ e).0
  link-none i l e Bound.total = test-none i l Bound.total (or-none _ _ e).1

  -- no overload: no step and no link breaks a bound
  pub scan-none : scan steps links bad ≡ none → (i l : ℕ) → i < steps → l < links → (b : Bound) → bad i l b ≡ false
  unfolding scan
  scan-none e i l hi hl = link-none i l (first-none (test_link bad i) links (first-none (test_step links bad) steps e i hi) l hl)

  -- an overload: the named link breaks the named bound in the named step
  pub scan-some : (o : Overload) → scan steps links bad ≡ some o
      → (o.from < steps) × (o.link < links) × (bad o.from o.link o.bound ≡ true)
  unfolding scan
  scan-some o e =
      let s = first_some (test_step links bad) steps o e in
      let k = first_some (test_link bad s.0) links o s.2 in
      let f = link-some s.0 k.0 o k.2 in
      (omega (arith, s.1, f.0), omega (arith, k.1, f.1), f.2)

  -- where no step and no link breaks a bound, there is no overload
  pub none-scan : ((i l : ℕ) → i < steps → l < links → (b : Bound) → bad i l b ≡ false) → scan steps links bad ≡ none
  none-scan h =
      ⊎_elim (λ q. q)
      (λ r. let s = scan-some r.0 r.1 in absurd (true≢false (sym s.2 ∙ h _ _ s.0 s.1 _)))
      (option_cases (scan steps links bad))

  -- ---- what nested loops that stop at the first overload prove
  pub link-protected : (i l : ℕ) → bad i l Bound.protected ≡ true → test_link bad i l ≡ some (record { bound = Bound.protected; from = i; link = l })
  unfolding test_link test or_else only_if
  link-protected i l e = rw e refl

  pub link-total : (i l : ℕ) → bad i l Bound.protected ≡ false → bad i l Bound.total ≡ true
      → test_link bad i l ≡ some (record { bound = Bound.total; from = i; link = l })
  unfolding test_link test or_else only_if
  link-total i l e h = rw (e, h) refl

  pub link-neither : (i l : ℕ) → bad i l Bound.protected ≡ false → bad i l Bound.total ≡ false → test_link bad i l ≡ none
  unfolding test_link test or_else only_if
  link-neither i l e h = rw (e, h) refl

  pub step-on : (i : ℕ) → first i (test_step links bad) ≡ none → first links (test_link bad i) ≡ none → first (i + 1) (test_step links bad) ≡ none
  step-on i e h = first_on (test_step links bad) i e h

  pub scan-at : (i l : ℕ) (o : Overload) → first i (test_step links bad) ≡ none → first l (test_link bad i) ≡ none → test_link bad i l ≡ some o
      → i < steps → l < links → scan steps links bad ≡ some o
  unfolding scan
  scan-at i l o ei el h hi hl = first-at (test_step links bad) i steps o ei (first-at (test_link bad i) l links o el h hl) hi

  pub scan-end : first steps (test_step links bad) ≡ none → scan steps links bad ≡ none
  unfolding scan
  scan-end e = e

-- only the steps and links that are there count
pub scan-cong : (steps links : ℕ) (bad worse : ℕ → ℕ → Bound → Bool)
    → ((i l : ℕ) → i < steps → l < links → (b : Bound) → bad i l b ≡ worse i l b) → scan steps links bad ≡ scan steps links worse
unfolding scan test_link test
scan-cong steps links bad worse h =
    first_cong _ _ steps (λ i hi. first_cong _ _ links (λ l hl.
    ap₂ (λ (p t : Bool). or_else (only_if p (record { bound = Bound.protected; from = i; link = l })) (only_if t (record { bound = Bound.total; from = i; link = l })))
    (h i l hi hl Bound.protected) (h i l hi hl Bound.total)))
