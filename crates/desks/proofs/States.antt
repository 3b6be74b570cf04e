-- Laws of the state: what a submission and a hand-out come to, case by case.
use Prim.Native.Nat.{ℕ, ◌≤◌, ◌<◌}
use mathlib.Core.Path.{◌≡◌, refl, sym, ap, ◌∙◌}
use mathlib.Core.Logic.{◌≢◌}
use mathlib.Core.Bool.{Bool, true, false, cond}
use mathlib.Core.List.{List, [], ◌∷◌}
use mathlib.Core.Option.{Option, none, some, some-ne-none, some-injective}
use native.Mathlib.Omega.{arith}
use lib.Dec.{ltb, eqb}
use lib.ListN.{length}
use borrow.Author.Tests.{lt-ltb, le-ltb, ltb-true, ltb-false, eqb-true, eqb-false}
use Rattle.model.specs.Outcome.{refused}
use Rattle.model.specs.declared.Cause.{Cause}
use Rattle.model.specs.declared.Cause.TheVariants as causes
use Rattle.model.proofs.Searches.{first_some, first-none}
use Rattle.desks.specs.State.{Job, State, Result, Acceptance, Handed, Work, accept, submitted, work, work_at, first_work, hand_of, handed_out}
use Rattle.desks.specs.Round.{place_in_round}
use Rattle.desks.proofs.Rounds.{place-below, round-place, place-round, round-below}

-- ---- a submission: whatever holds of a refusal, and of an acceptance that is due, holds of it
pub by-submit : (desk tag : ℕ) (s : State) (P : Result Acceptance → Type 0)
    → ((c : Cause) (place : ℕ) → P (record { answer = refused c place 0; state = s }))
    → (desk < 8 → length (s.queue desk) < 4 → P (accept desk tag s))
    → P (submitted desk tag s)
unfolding submitted
by-submit desk tag s P refuse on =
    go (ltb desk 8) (ltb (length (s.queue desk)) 4) (λ e. ltb-true _ _ e) (λ e. ltb-true _ _ e)
  where
    go : (a b : Bool) → (a ≡ true → desk < 8) → (b ≡ true → length (s.queue desk) < 4)
        → P (cond a (cond b (accept desk tag s) (record { answer = refused causes.FourWait desk 0; state = s })) (record { answer = refused causes.NoSuchDesk desk 0; state = s }))
    go true true h k = on (h refl) (k refl)
    go true false h k = refuse _ _
    go false b h k = refuse _ _

-- and which of the three it is
pub no-desk : (desk tag : ℕ) (s : State) → 8 ≤ desk → submitted desk tag s ≡ record { answer = refused causes.NoSuchDesk desk 0; state = s }
unfolding submitted
no-desk desk tag s h = simp (le-ltb desk 8 h)

pub full : (desk tag : ℕ) (s : State) → desk < 8 → 4 ≤ length (s.queue desk) → submitted desk tag s ≡ record { answer = refused causes.FourWait desk 0; state = s }
unfolding submitted
full desk tag s h k = simp (lt-ltb desk 8 h, le-ltb (length (s.queue desk)) 4 k)

pub accepts : (desk tag : ℕ) (s : State) → desk < 8 → length (s.queue desk) < 4 → submitted desk tag s ≡ accept desk tag s
unfolding submitted
accepts desk tag s h k = simp (lt-ltb desk 8 h, lt-ltb (length (s.queue desk)) 4 k)

-- ---- a hand-out
pub by-hand-out : (s : State) (P : Result Handed → Type 0)
    → (first_work s ≡ none → P (record { answer = refused causes.NothingWaits 0 0; state = s }))
    → ((w : Work) → first_work s ≡ some w → P (hand_of s (some w)))
    → P (handed_out s)
unfolding hand_of
by-hand-out s P nothing some-work = go (first_work s) refl
  where
    go : (o : Option Work) → first_work s ≡ o → P (hand_of s o)
    go none e = nothing e
    go (some w) e = some-work w e

pub work-some : (d : ℕ) (jobs : List Job) (w : Work) → work d jobs ≡ some w → (w.desk ≡ d) × (jobs ≡ w.oldest ∷ w.others)
unfolding work
work-some d [] w e = absurd (some-ne-none w (sym e))
work-some d (job ∷ jobs) w e =
    let i = some-injective _ w e in
    (sym (ap (λ (x : Work). x.desk) i), ap (λ (x : Work). x.oldest ∷ x.others) i)

pub work-on : (d : ℕ) (job : Job) (jobs : List Job) → work d (job ∷ jobs) ≡ some (record { desk = d; oldest = job; others = jobs })
unfolding work
work-on d job jobs = refl

pub work_none : (d : ℕ) (jobs : List Job) → work d jobs ≡ none → jobs ≡ []
unfolding work
work_none d [] e = refl
work_none d (job ∷ jobs) e = absurd (some-ne-none _ e)

-- ---- the first desk with work: it has work, and those that come earlier have none
pub record IsFirst (s : State) (w : Work) : Type 0 where
  pub below : w.desk < 8
  pub has : s.queue w.desk ≡ w.oldest ∷ w.others
  pub passed : (d : ℕ) → d < 8 → place_in_round s.last d < place_in_round s.last w.desk → s.queue d ≡ []

-- no work at the place of desk d
no-work-at : (s : State) (d : ℕ) → d < 8 → work_at s (place_in_round s.last d) ≡ none → s.queue d ≡ []
no-work-at s d h e = work_none d (s.queue d) (ap (λ x. work x (s.queue x)) (sym (round-place s.last d h)) ∙ e)

pub first-work : (s : State) (w : Work) → first_work s ≡ some w → IsFirst s w
unfolding first_work
first-work s w e =
    let f = first_some (work_at s) 8 w e in
    let h = work-some _ _ w f.2 in
    let k : place_in_round s.last w.desk ≡ f.0 = ap (place_in_round s.last) h.0 ∙ place-round s.last f.0 f.1 in
    record {
      below = omega (arith, h.0, round-below s.last f.0);
      has = ap s.queue h.0 ∙ h.1;
      passed = λ d l b. no-work-at s d l (first-none (work_at s) f.0 f.3 _ (omega (arith, b, k)));
    }

pub no-work : (s : State) → first_work s ≡ none → (d : ℕ) → d < 8 → s.queue d ≡ []
unfolding first_work
no-work s e d h = no-work-at s d h (first-none (work_at s) 8 e _ (place-below s.last d))

-- ---- is it this desk?
pub by-desk : (d desk : ℕ) (P : Bool → Type 0) → (d ≡ desk → P true) → (d ≢ desk → P false) → P (eqb d desk)
by-desk d desk P same other = go (eqb d desk) refl
  where
    go : (b : Bool) → eqb d desk ≡ b → P b
    go true e = same (eqb-true d desk e)
    go false e = other (eqb-false d desk e)

-- ---- and is it less?
pub by_less : (a b : ℕ) (P : Bool → Type 0) → (a < b → P true) → (b ≤ a → P false) → P (ltb a b)
by_less a b P less not-less = go (ltb a b) refl
  where
    go : (c : Bool) → ltb a b ≡ c → P c
    go true e = less (ltb-true a b e)
    go false e = not-less (ltb-false a b e)
