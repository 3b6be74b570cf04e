-- Laws of the answer: which steps have a page, and what the checker's refusals leave.
use Prim.Native.Nat.{ℕ, ◌-◌, ◌≤◌, ◌<◌}
use mathlib.Core.Path.{◌≡◌, refl, sym, ap, ◌∙◌}
use mathlib.Core.Logic.{◌⊎◌, ⊎_elim}
use mathlib.Core.Bool.{Bool, cond, ◌&&◌}
use mathlib.Core.List.{List}
use mathlib.Core.Option.{Option, none, some}
use native.Mathlib.Nat.{zero-add}
use native.Mathlib.Omega.{arith}
use borrow.Author.Tests.{le-leb, lt-leb, leb-true}
use lib.Dec.{leb}
use lib.ListN.{length}
use Rattle.model.specs.Limits.{most_tunnels}
use Rattle.model.specs.Net.{Net, Plan}
use Rattle.model.specs.Outcome.{Outcome, good, refused, and_then}
use Rattle.model.specs.declared.Cause.TheVariants.{NoSuchStep as no_such_step, NoRoom as no_room}
use Rattle.model.specs.Scan.{Overload}
use Rattle.model.proofs.Choices.{kept-none}
use Rattle.model.proofs.Outcomes.{cond-good, good-same}
use Rattle.model.proofs.Searches.{and-true, and-false}
use Rattle.lists.specs.Lists.{network_of, plan_of}
use Rattle.lists.specs.Answers.{with_room, lent}
use Rattle.lists.specs.Refusals.{refusal, counted}
use Rattle.lists.specs.declared.refusal.Refusal.{Refusal}
use Rattle.lists.proofs.Refusals.{err-room}
use Rattle.std.specs.declared.result.Result.{Result}
use Rattle.std.specs.declared.result.Result.TheVariants.{Ok, Err}
use Rattle.lines.specs.Puts.{Puts}
use Rattle.lines.proofs.Writing.{placed-front}
use Rattle.forms.proofs.Good.{good-network, good-plan}
use Rattle.checker.specs.Check.{judge_pair, verdict, checked_count}
use Rattle.checker.proofs.Main.{checker}
use Rattle.checker.proofs.Pairs.{pair-good}
use Rattle.page.specs.Page.{page, step_page, unless_over, page_of}
use Rattle.page.specs.Inner.{Accepted}

-- ---- the step

module _ (N : Net) (P : Plan) (s : ℕ) where
  pub step-outside : (s < 1) ⊎ (P.steps < s) → step_page N P s ≡ refused no_such_step s 0
  unfolding step_page
  step-outside h =
      let given : Bool → Outcome (List ℕ) = λ b. cond b (good (page N P (s - 1))) (refused no_such_step s 0) in
      ⊎_elim (λ l. ap (λ (b : Bool). given (b && leb s P.steps)) (lt-leb 1 s l)) (λ k. ap (λ (b : Bool). given (leb 1 s && b)) (lt-leb s P.steps k) ∙ ap given (and-false (leb 1 s))) h

  pub step_in : 1 ≤ s → s ≤ P.steps → step_page N P s ≡ good (page N P (s - 1))
  unfolding step_page
  step_in h k = rw (le-leb 1 s h, le-leb s P.steps k)

  pub step_given : (t : List ℕ) → step_page N P s ≡ good t → (1 ≤ s) × (s ≤ P.steps) × (t ≡ page N P (s - 1))
  unfolding step_page
  step_given t e =
      let c = cond-good _ (good (page N P (s - 1))) _ s 0 t e in
      let b = and-true (leb 1 s) (leb s P.steps) c.0 in
      (leb-true 1 s b.0, leb-true s P.steps b.1, sym (good-same _ _ c.1))

-- what is given, and what is left in the output
module _ (N : Net) (P : Plan) (s : ℕ) (out : List ℕ) where
  abbrev result : Result ℕ Refusal
  result = counted (with_room (length out) (step_page N P s))

  abbrev after : List ℕ
  after = lent (with_room (length out) (step_page N P s)) out

  pub none-given : (s < 1) ⊎ (P.steps < s) → (Err (refusal no_such_step s 0) ≡ result) × (out ≡ after)
  none-given h = rw (step-outside N P s h) (refl, refl)

  module _ (h : 1 ≤ s) (k : s ≤ P.steps) where
    pub short-given : (m : ℕ) → length (page N P (s - 1)) ≡ m → length out < m → (Err (refusal no_room m 0) ≡ result) × (out ≡ after)
    short-given m e l = rw (step_in N P s h k, e, lt-leb m (length out) l) (refl, refl)

    pub all-given : {out' : List ℕ} {past : ℕ} → length (page N P (s - 1)) ≤ length out → Puts (page N P (s - 1)) 0 out out' past → (Ok past ≡ result) × (out' ≡ after)
    all-given {out'} {past} l p = rw (step_in N P s h k, le-leb (length (page N P (s - 1))) (length out) l) (ap Ok (p.place ∙ zero-add (length (page N P (s - 1)))), p.bytes ∙ placed-front out (page N P (s - 1)))

-- ---- the checker's refusals

-- the outcome by the checker's verdict, with room for the marks of a pair that is judged good
pub by-verdict : (n p : List ℕ) (s room : ℕ) → ((q : List ℕ) → judge_pair n p ≡ good q → (network_of n).tunnels ≤ room)
    → page_of n p s ≡ and_then (verdict 1 n p room) (λ o. unless_over o (step_page (network_of n) (plan_of p) s))
unfolding page_of
by-verdict n p s room h = go (judge_pair n p) refl
  where
    go : (j : Outcome (List ℕ)) → judge_pair n p ≡ j → page_of n p s ≡ and_then (verdict 1 n p room) (λ o. unless_over o (step_page (network_of n) (plan_of p) s))
    go (good q) e = let w : q ≡ p = (pair-good n p q e).same in rw (e, w, le-leb (network_of n).tunnels room (h q e))
    go (refused c place second) e = rw e

-- there is room for those of the most tunnels
room-enough : (n p q : List ℕ) → judge_pair n p ≡ good q → (network_of n).tunnels ≤ most_tunnels
unfolding network_of
room-enough n p q e = (pair-good n p q e).checkable.network.ranges.sized.counts.tunnels

stopped : (n : List ℕ) (v : Outcome (Option Overload)) (next : Outcome (List ℕ)) (r : Refusal) → checked_count n v ≡ Err r → counted (and_then v (λ o. unless_over o next)) ≡ Err r
stopped n (good none) next r e = let z : ◌≡◌ {A = ℕ} 0 1 = cc in absurd (omega arith)
stopped n (good (some o)) next r e = e
stopped n (refused c place second) next r e = e

pub check-refused : (n p : List ℕ) (s : ℕ) (r : Refusal) (out : List ℕ) → checked_count n (verdict 1 n p most_tunnels) ≡ Err r
    → (counted (with_room (length out) (page_of n p s)) ≡ Err r) × (lent (with_room (length out) (page_of n p s)) out ≡ out)
check-refused n p s r out e =
    err-room r (page_of n p s) out (ap counted (by-verdict n p s most_tunnels (room-enough n p)) ∙ stopped n (verdict 1 n p most_tunnels) (step_page (network_of n) (plan_of p) s) r e)

-- or none
pub check-passed : (n p : List ℕ) (k : ℕ) → checked_count n (verdict 1 n p most_tunnels) ≡ Ok k → verdict 1 n p most_tunnels ≡ good none
check-passed n p k e = go (verdict 1 n p most_tunnels) e
  where
    go : (v : Outcome (Option Overload)) → checked_count n v ≡ Ok k → v ≡ good none
    go (good none) e = refl
    go (good (some o)) e = let z : ◌≡◌ {A = ℕ} 0 1 = cc in absurd (omega arith)
    go (refused c place second) e = let z : ◌≡◌ {A = ℕ} 0 1 = cc in absurd (omega arith)

module _ (n p : List ℕ) (room : ℕ) (e : verdict 1 n p room ≡ good none) where
  pub accepted : Accepted n p
  unfolding network_of
  accepted =
      let d = (checker.done 1 n p room).0 e in
      record {
        both = record { network = (good-network n n d.0.network).1; plan = (good-plan p p d.0.plan).1; tunnels = d.0.tunnels };
        kept = kept-none 1 (network_of n) (plan_of p) d.1;
      }

  pub after-pass : (s : ℕ) → page_of n p s ≡ step_page (network_of n) (plan_of p) s
  after-pass s =
      by-verdict n p s room (λ q j. ((checker.done 1 n p room).0 e).0.room) ∙ ap (λ (v : Outcome (Option Overload)). and_then v (λ o. unless_over o (step_page (network_of n) (plan_of p) s))) e
