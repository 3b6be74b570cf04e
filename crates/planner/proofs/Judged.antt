-- What the judge's answer says of the planner's outcome.
use Prim.Native.Nat.{ℕ, ◌+◌, ◌≤◌}
use mathlib.Core.Path.{◌≡◌, refl, sym, ap, ◌∙◌}
use mathlib.Core.Logic.{⊎_elim}
use mathlib.Core.Bool.{Bool, true, false, cond}
use mathlib.Core.List.{List, [], ◌∷◌, ◌++◌}
use mathlib.Core.Option.{Option, none, some, Option-elim}
use native.Mathlib.Omega.{arith}
use Rattle.model.specs.Outcome.{Outcome, good, refused, number, unless, Place}
use Rattle.model.specs.declared.Cause.TheVariants.{NoEvenPlan as no_even_plan, LagOutside as lag_outside}
use Rattle.model.specs.declared.Cause.TheVariants as causes
use lib.Dec.{leb}
use borrow.Author.Tests.{leb-true}
use Rattle.model.specs.Limits.{most_lag}
use Rattle.model.specs.Rule.{missed_rate}
use Rattle.model.proofs.Searches.{bool_cases, and-true}
use lib.ListN.{length}
use Rattle.std.specs.Prelude.{None, Some, Err}
use Rattle.lists.specs.Answers.{with_room, lent}
use Rattle.lists.specs.Refusals.{judged, counted}
use Rattle.lists.specs.Lists.{network_of}
use Rattle.lists.specs.declared.refusal.Refusal.{Refusal}
use Rattle.lists.proofs.Refusals.{judged-stands, err-then, err-room}
use Rattle.forms.specs.Form.{Field, field_of, admits_of}
use Rattle.model.specs.Outcome.{and_then, is_lag, at_lag}
use Rattle.forms.specs.Read.{on_field, walk, judge_numbers, add_up}
use Rattle.forms.specs.Turns.{itself}
use Rattle.forms.specs.declared.form.Form.{Form}
use Rattle.forms.specs.declared.form.Form.TheVariants.{Network}
use Rattle.forms.specs.declared.form.Range.{Range}
use Rattle.forms.specs.declared.form.Key.{Key}
use Rattle.forms.proofs.Good.{good-network}
use Rattle.planner.specs.Planned.{even_plan, planned}
use Rattle.forms.specs.Named.{judge_network}

-- ---- the lag

pub lag-in : {A : Type 0} (w : ℕ) (o : Outcome A) → is_lag w ≡ true → at_lag w o ≡ o
lag-in w o h = rw h refl

pub lag-out : {A : Type 0} (w : ℕ) (o : Outcome A) → is_lag w ≡ false → at_lag w o ≡ refused lag_outside w 0
lag-out w o h = rw h refl

pub lag-least : (w : ℕ) → is_lag w ≡ true → 1 ≤ w
lag-least w h = leb-true 1 w (and-true (leb 1 w) (leb w most_lag) h).0

pub lag-most : (w : ℕ) → is_lag w ≡ true → w ≤ most_lag
lag-most w h = leb-true w most_lag (and-true (leb 1 w) (leb w most_lag) h).1

-- an outcome other than 19 is that of a lag of 1 to 4
pub lag-else : {A : Type 0} (w : ℕ) (o r : Outcome A) → (refused lag_outside w 0 ≡ r → ⊥) → at_lag w o ≡ r → (is_lag w ≡ true) × (o ≡ r)
lag-else w o r n e =
    ⊎_elim (λ h. (h, sym (lag-in w o h) ∙ e)) (λ h. absurd (n (sym (lag-out w o h) ∙ e))) (bool_cases (is_lag w))

pub planned-outside : (w : ℕ) (l : List ℕ) → is_lag w ≡ false → planned w l ≡ refused lag_outside w 0
unfolding planned
planned-outside w l h = lag-out w _ h

pub planned-good : (w : ℕ) (l : List ℕ) → is_lag w ≡ true → judge_network l ≡ good l → planned w l ≡ even_plan w (network_of l)
unfolding planned
planned-good w l h e = lag-in w _ h ∙ ap (λ o. and_then o (λ g. even_plan w (network_of g))) e

-- ---- where the judge refuses

pub planned-refused : (w : ℕ) (l : List ℕ) (r : Refusal) (out : List ℕ) → is_lag w ≡ true → judged (judge_network l) ≡ Err r
    → (counted (with_room (length out) (planned w l)) ≡ Err r) × (lent (with_room (length out) (planned w l)) out ≡ out)
unfolding planned
planned-refused w l r out h e =
    let next : List ℕ → Outcome (List ℕ) = λ g. even_plan w (network_of g) in
    err-room r (planned w l) out (ap counted (lag-in w (and_then (judge_network l) next) h) ∙ err-then r (judge_network l) next (judged-stands r (judge_network l) e))

-- ---- which refusals are the judge's own: 1 to 4

abbrev Early : Outcome (List ℕ) → Type 0
Early (good l) = Unit {0}
Early (refused c p s) = number c ≤ 4

field-early : (f : Field) (a : Outcome (List ℕ)) (g : Key → Range → Outcome (List ℕ)) → Early a → ((k : Key) (r : Range) → Early (g k r)) → Early (on_field f a g)
field-early None a g h k = h
field-early (Some x) a g h k = k x.key x.range

value-early : (o : Option ℕ) (a : Outcome (List ℕ)) (g : ℕ → Outcome (List ℕ)) → Early a → ((v : ℕ) → Early (g v)) → Early (Option-elim o a g)
unfolding Option-elim
value-early none a g h k = h
value-early (some v) a g h k = k v

cond-early : (b : Bool) (x y : Outcome (List ℕ)) → Early x → Early y → Early (cond b x y)
cond-early true x y h k = h
cond-early false x y h k = k

walk-early : {X : Type 0} (value : Key → Range → X → Option ℕ) (form : Form) (n : ℕ) (before : List ℕ) (xs : List X) → Early (walk value form n before xs)
unfolding walk
walk-early value form n before [] = field-early (field_of form before) _ _ tt (λ k r. omega arith)
walk-early value form n before (x ∷ xs) =
    field-early (field_of form before) _ _ (omega arith) (λ k r.
    value-early (value k r x) _ _ (omega arith) (λ v.
    cond-early (admits_of r v) _ _ (walk-early value form (n + 1) (before ++ (v ∷ [])) xs) (omega arith)))

missed-early : (l : List ℕ) (o : Option Place) → Early (unless causes.MissedRate o (good l))
missed-early l none = tt
missed-early l (some p) = omega arith

then-early : (o : Outcome (List ℕ)) (next : List ℕ → Outcome (List ℕ)) → Early o → ((l : List ℕ) → Early (next l)) → Early (and_then o next)
then-early (good l) next h k = k l
then-early (refused c p s) next h k = h

judge-early : (l : List ℕ) → Early (judge_network l)
unfolding judge_numbers add_up
judge-early l = then-early (judge_numbers Network l) (add_up Network) (walk-early itself Network 1 [] l) (λ g. missed-early g (missed_rate (network_of g)))

-- so 9 is the planner's
nine-passed : (o : Outcome (List ℕ)) (next : List ℕ → Outcome (List ℕ)) (p s : ℕ) → Early o → and_then o next ≡ refused no_even_plan p s
    → (g : List ℕ) × (o ≡ good g) × (next g ≡ refused no_even_plan p s)
nine-passed (good g) next p s h e = (g, refl, e)
nine-passed (refused c i j) next p s h e = let z : c ≡ no_even_plan = cc in absurd (omega (arith, ap number z))

pub planned-nine : (w : ℕ) (l : List ℕ) (p s : ℕ) → planned w l ≡ refused no_even_plan p s → (judge_network l ≡ good l) × (even_plan w (network_of l) ≡ refused no_even_plan p s)
unfolding planned
planned-nine w l p s e =
    let h = lag-else w (and_then (judge_network l) (λ g. even_plan w (network_of g))) (refused no_even_plan p s) (λ z. let c : lag_outside ≡ no_even_plan = cc in omega (arith, ap number c)) e in
    let n = nine-passed (judge_network l) (λ g. even_plan w (network_of g)) p s (judge-early l) h.1 in
    let j = good-network l n.0 n.1 in
    (n.1 ∙ ap good j.0, sym (ap (λ g. even_plan w (network_of g)) j.0) ∙ n.2)
