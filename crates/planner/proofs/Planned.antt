-- The planner's outcome, case by case.
use Prim.Native.Nat.{ℕ, ◌≤◌, ◌<◌}
use mathlib.Core.Path.{◌≡◌, refl, ap, ◌∙◌}
use mathlib.Core.Bool.{Bool, cond}
use mathlib.Core.List.{List}
use mathlib.Core.Option.{Option, none, some, Option-elim}
use native.Mathlib.Omega.{arith}
use lib.ListN.{length}
use borrow.Author.Tests.{le-leb, lt-leb}
use Rattle.model.specs.Outcome.{Outcome, good, refused}
use Rattle.model.specs.declared.Cause.TheVariants.{NoRoom as no_room}
use Rattle.model.specs.Net.{Net}
use Rattle.model.specs.Scan.{Overload}
use Rattle.model.specs.Even.{fewest, even}
use Rattle.std.specs.Prelude.{None, Some}
use Rattle.lists.specs.Answers.{with_room, lent}
use Rattle.lists.specs.Refusals.{counted}
use Rattle.planner.specs.Planned.{even_list, stuck, even_plan}
use Rattle.planner.specs.Search.{answered}
use Rattle.model.specs.Rule.{first_overload}
use Rattle.model.specs.Limits.{most_steps}

-- ---- what the search answers

pub answered-some : (o : Option ℕ) (q : ℕ) → answered o ≡ Some q → o ≡ some q
answered-some none q e = let z : ◌≡◌ {A = ℕ} 0 1 = cc in absurd (omega arith)
answered-some (some p) q e = cc

pub answered-none : (o : Option ℕ) → answered o ≡ None → o ≡ none
answered-none none e = refl
answered-none (some p) e = let z : ◌≡◌ {A = ℕ} 0 1 = cc in absurd (omega arith)

-- ---- the outcome, with the room that is lent

abbrev pub by_fewest : ℕ → Net → Option ℕ → Outcome (List ℕ)
by_fewest w N o = Option-elim o (stuck (first_overload w N (even N most_steps))) (λ q. good (even_list N q))

module _ (w : ℕ) (N : Net) (out : List ℕ) where
  -- the outcome's answer and output, at once
  abbrev pub Comes : Outcome (List ℕ) → Type 0
  Comes o = (counted (with_room (length out) (even_plan w N)) ≡ counted o) × (lent (with_room (length out) (even_plan w N)) out ≡ lent o out)

  comes : (o : Outcome (List ℕ)) → with_room (length out) (even_plan w N) ≡ o → Comes o
  comes o e = (ap counted e, ap (λ p. lent p out) e)

  stuck-lent : (o : Option Overload) → (with_room (length out) (stuck o) ≡ stuck o) × (lent (stuck o) out ≡ out)
  unfolding stuck Option-elim
  stuck-lent none = (refl, refl)
  stuck-lent (some o) = (refl, refl)

  pub no-plan : fewest w N ≡ none → (counted (with_room (length out) (even_plan w N)) ≡ counted (stuck (first_overload w N (even N most_steps)))) × (lent (with_room (length out) (even_plan w N)) out ≡ out)
  unfolding even_plan Option-elim
  no-plan e =
      let s = stuck-lent (first_overload w N (even N most_steps)) in
      let k = comes _ (ap (λ o. with_room (length out) (by_fewest w N o)) e ∙ s.0) in
      (k.0, k.1 ∙ s.1)

  module _ (q : ℕ) (e : fewest w N ≡ some q) where
    pub room-short : length out < length (even_list N q) → Comes (refused no_room (length (even_list N q)) 0)
    unfolding even_plan Option-elim
    room-short h =
        comes _ (ap (λ o. with_room (length out) (by_fewest w N o)) e
        ∙ ap (λ (b : Bool). cond b (good (even_list N q)) (refused no_room (length (even_list N q)) 0)) (lt-leb _ _ h))

    pub room-enough : length (even_list N q) ≤ length out → Comes (good (even_list N q))
    unfolding even_plan Option-elim
    room-enough h =
        comes _ (ap (λ o. with_room (length out) (by_fewest w N o)) e
        ∙ ap (λ (b : Bool). cond b (good (even_list N q)) (refused no_room (length (even_list N q)) 0)) (le-leb _ _ h))
