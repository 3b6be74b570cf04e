-- What the marks have to do with the checker's outcome.
use Prim.Native.Nat.{ℕ, ◌≤◌, ◌<◌}
use mathlib.Core.Path.{◌≡◌, refl, sym, ap, ap₂, ◌∙◌}
use mathlib.Core.Bool.{true, false}
use mathlib.Core.List.{List, ◌++◌}
use mathlib.Core.Option.{Option, none, some}
use native.Mathlib.Omega.{arith}
use borrow.Author.Tests.{le-leb, leb-true}
use lib.Dec.{leb}
use lib.ListN.{length, drop}
use Rattle.model.specs.Outcome.{Outcome, good, refused, is_lag}
use Rattle.model.specs.Limits.{most_lag}
use Rattle.model.specs.Listed.{listed}
use Rattle.model.specs.Net.{Net, Plan}
use Rattle.model.specs.Scan.{Overload, cause, step}
use Rattle.model.specs.Rule.{step_count, first_overload, mark}
use Rattle.model.proofs.Searches.{and-true}
use Rattle.model.proofs.Choices.{marked-overloads}
use Rattle.lists.specs.Lists.{network_of, plan_of}
use Rattle.lists.specs.Refusals.{done_with}
use Rattle.lists.specs.declared.Answer.TheVariants.{Refused}
use Rattle.amounts.specs.Lists.{Lists}
use Rattle.checker.specs.Check.{judge_pair, verdict, checked, checked_count, marks_after}
use Rattle.overloads.specs.Inner.{overload_of}
use Rattle.overloads.specs.declared.steps.Overload as code
use Rattle.std.specs.declared.option.Option.TheVariants.{Some, None}
use Rattle.checker.specs.Inner.{marks_of, marks_at}

-- the answer made of the result is the one that the checker's outcome comes to
pub checked-same : (n : List ℕ) (o : Outcome (Option Overload)) → done_with (checked_count n o) ≡ checked n o
checked-same n (good none) = refl
checked-same n (good (some o)) = refl
checked-same n (refused c place second) = refl

-- ---- the marks that are cleared

pub cleared : (w n : ℕ) (net p marks ys : List ℕ) → n ≡ (network_of net).tunnels → ys ≡ marks_of (λ t. false) n ++ drop n marks → first_overload w (network_of net) (plan_of p) ≡ none
    → ys ≡ marks_after w net p (good (first_overload w (network_of net) (plan_of p))) marks
cleared w n net p marks ys e f z = rw z (f ∙ ap (λ (k : ℕ). listed {A = ℕ} k (λ t. 0) ++ drop k marks) e)

-- ---- the overload that is found, as the code has it: its step and its link are there

pub record Named (o : Option Overload) (i l : ℕ) : Type 0 where
  pub overload : Overload
  pub found : o ≡ some overload
  pub from : i ≡ overload.from
  pub link : l ≡ overload.link

pub found_none : (o : Option Overload) → overload_of o ≡ None → o ≡ none
found_none none e = refl
found_none (some o) e = let z : ◌≡◌ {A = ℕ} 0 1 = cc in absurd (omega arith)

pub found_some : (o : Option Overload) (f : code.Overload) → overload_of o ≡ Some f → Named o f.row f.link
found_some none f e = let z : ◌≡◌ {A = ℕ} 0 1 = cc in absurd (omega arith)
found_some (some o) f e = let r : record { cause = cause o.bound; row = o.from; link = o.link } ≡ f = cc in
    record { overload = o; found = refl; from = sym (ap (λ (g : code.Overload). g.row) r); link = sym (ap (λ (g : code.Overload). g.link) r) }

pub named-in : (w : ℕ) (N : Net) (P : Plan) (i l : ℕ) → Named (first_overload w N P) i l → (i < step_count w N P) × (l < N.links)
named-in w N P i l d = let s = marked-overloads w N P d.overload d.found in (omega (arith, s.0, d.from), omega (arith, s.1, d.link))

pub named-marks : (w : ℕ) (n p : List ℕ) (i l : ℕ) (marks ys : List ℕ) → Named (first_overload w (network_of n) (plan_of p)) i l
    → ys ≡ marks_at w (network_of n) (plan_of p) i l (network_of n).tunnels ++ drop (network_of n).tunnels marks
    → ys ≡ marks_after w n p (good (first_overload w (network_of n) (plan_of p))) marks
unfolding mark
named-marks w n p i l marks ys d e =
    rw d.found (e ∙ ap₂ (λ (a k : ℕ). marks_at w (network_of n) (plan_of p) a k (network_of n).tunnels ++ drop (network_of n).tunnels marks) d.from d.link)

-- ---- the check of the steps of a pair is what the verdict comes to

pub steps-marks : (w : ℕ) (n p marks ys : List ℕ) (s : Lists) → is_lag w ≡ true → judge_pair n p ≡ good p → s ≡ record { network = n; plan = p }
    → (network_of s.network).tunnels ≤ length marks
    → ys ≡ marks_after w s.network s.plan (good (first_overload w (network_of s.network) (plan_of s.plan))) marks
    → ys ≡ marks_after w n p (verdict w n p (length marks)) marks
steps-marks w n p marks ys s lag e k h g =
    let steps : verdict w n p (length marks) ≡ good (first_overload w (network_of n) (plan_of p)) = simp (lag, e, le-leb (network_of n).tunnels (length marks) (rw k at h)) in
    rw steps (rw k at g)

-- what the code's test tells
pub lag-in : (w : ℕ) → is_lag w ≡ true → (1 ≤ w) × (w ≤ most_lag)
lag-in w e = let a = and-true (leb 1 w) (leb w most_lag) e in (leb-true 1 w a.0, leb-true w most_lag a.1)
