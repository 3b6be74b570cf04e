-- What the judging of a network and a plan together comes to, and what it tells of them.
use Prim.Native.Nat.{ℕ}
use mathlib.Core.Path.{◌≡◌, refl, sym, ap, ap₂, ◌∙◌}
use mathlib.Core.List.{List}
use mathlib.Core.Option.{Option, none, some}
use native.Mathlib.Omega.{arith}
use borrow.Author.Tests.{eqb-true}
use lib.Dec.{eqb}
use Rattle.model.specs.Outcome.{Outcome, good, refused, unless, Place, and_then}
use Rattle.model.specs.declared.Cause.TheVariants as causes
use Rattle.model.specs.Rule.{missed_row}
use Rattle.model.proofs.Outcomes.{good-refused, then-good, cond-good, good-same}
use Rattle.lists.specs.Lists.{network_of, plan_sizes, plan_of}
use Rattle.lists.specs.Refusals.{judged}
use Rattle.lists.proofs.Refusals.{judged-good}
use Rattle.forms.specs.Named.{judge_network, judge_plan}
use Rattle.forms.proofs.Good.{good-network, good-plan}
use Rattle.checker.specs.Check.{judge_rows, judge_pair}
use Rattle.amounts.specs.Rows.{Checkable}
use Rattle.amounts.specs.Lists.{Lists}
use Rattle.std.specs.declared.result.Result.TheVariants.{Ok}
use Rattle.checker.specs.Inner.{paired}

-- ---- a good pair

-- what is known of a network and a plan that are judged good together
pub record Judged (n p q : List ℕ) : Type 0 where
  pub same : q ≡ p
  pub network : judge_network n ≡ good n
  pub plan : judge_plan p ≡ good p
  pub checkable : Checkable n p
  pub rows : missed_row (network_of n) (plan_of p) ≡ none

missed-good : (o : Option Place) (p q : List ℕ) → unless causes.MissedRow o (good p) ≡ good q → (o ≡ none) × (q ≡ p)
missed-good none p q e = (refl, sym (good-same p q e))
missed-good (some w) p q e = absurd (good-refused q _ _ _ e)

pub pair-good : (n p q : List ℕ) → judge_pair n p ≡ good q → Judged n p q
unfolding network_of
pair-good n p q e =
    let a = then-good (judge_network n) (λ m. and_then (judge_plan p) (judge_rows m)) q e in
    let b = then-good (judge_plan p) (judge_rows a.0) q a.2 in
    let gn = good-network n a.0 a.1 in
    let gp = good-plan p b.0 b.1 in
    let w : judge_rows n p ≡ good q = ap₂ judge_rows (sym gn.0) (sym gp.0) ∙ b.2 in
    let c = cond-good (eqb (plan_sizes p).tunnels (network_of n).tunnels) (unless causes.MissedRow (missed_row (network_of n) (plan_of p)) (good p)) _ 4 1 q w in
    let d = missed-good (missed_row (network_of n) (plan_of p)) p q c.1 in
    record {
      same = d.1;
      network = a.1 ∙ ap good gn.0;
      plan = b.1 ∙ ap good gp.0;
      checkable = record { network = gn.1; plan = gp.1; tunnels = eqb-true (plan_sizes p).tunnels (network_of n).tunnels c.0 };
      rows = d.0;
    }

-- ---- what both judges give, judged together

pub pair-rows : (n p m q : List ℕ) → judged (judge_network n) ≡ Ok m → judged (judge_plan p) ≡ Ok q → paired m (judge_rows m q) ≡ paired n (judge_pair n p)
pair-rows n p m q h e =
    let g = judged-good _ m h in
    rw (g, judged-good _ q e) (ap (λ (k : List ℕ). paired k (judge_rows m q)) (good-network n m g).0)

-- ---- what a pair that is given tells

pub pair-judged : (n p : List ℕ) (s : Lists) → paired n (judge_pair n p) ≡ Ok s → (judge_pair n p ≡ good p) × (s ≡ record { network = n; plan = p })
pair-judged n p s e = go _ refl e
  where
    go : (o : Outcome (List ℕ)) → judge_pair n p ≡ o → paired n o ≡ Ok s → (judge_pair n p ≡ good p) × (s ≡ record { network = n; plan = p })
    go (good q) m e =
        let j = pair-good n p q m in
        let t : s ≡ record { network = n; plan = q } = cc in
        (m ∙ ap good j.same, t ∙ ap (λ (k : List ℕ). record { network = n; plan = k }) j.same)
    go (refused c place second) m e = let z : ◌≡◌ {A = ℕ} 0 1 = cc in absurd (omega arith)
