-- `sharing::demands::look` meets its contract: no demand passed is out of range, and those passed are added up. Assumes nothing.
use mathlib.Core.Path.{◌≡◌, refl, sym, subst}
use lib.ListN.{length}
use native.Mathlib.Omega.{arith}
use borrow.Author.Tests.{le-ltb}
use Prim.Native.Nat.{ℕ}
use Rattle.model.proofs.Sums.{sum-zero, sum-on}
use Rattle.model.proofs.Searches.{first-zero, first_on, only-false}
use Rattle.sharing.specs.Share.{bad_demand}
use Rattle.sharing.specs.Inner.{FirstBad}
use Rattle.sharing.proofs.demands.look.Goals as goal

pub loop-bad-init : goal.loop-bad-init
loop-bad-init c = record { good = first-zero _; adds = sym (sum-zero _ _); small = omega arith }

pub returns-then-demand-gt-AMOUNT : goal.returns-then-demand-gt-AMOUNT
returns-then-demand-gt-AMOUNT c =
    let i = c.loop-bad.invariant in record { inside = omega (arith, c.loop-bad-test.true); before = i.good; here = λ h. c.if-demand-gt-AMOUNT.true; adds = i.adds }

pub loop-bad-preserved : goal.loop-bad-preserved
unfolding bad_demand
loop-bad-preserved c =
    let l = c.loop-bad in
    record {
      good = first_on _ l.bad l.invariant.good (only-false _ _ (le-ltb _ _ c.if-demand-gt-AMOUNT.false));
      adds = sum-on l.bad _ _ l.invariant.adds refl;
      small = omega (arith, l.invariant.small, c.if-demand-gt-AMOUNT.false);
    }

pub returns : goal.returns
returns c =
    let l = c.loop-bad in
    let e : l.bad ≡ length c.args.list.now = omega (arith, c.loop-bad-test.false, l.auto.bad-end) in
    subst
    (λ (k : ℕ). FirstBad c.args.list.now k l.sum)
    e
    (record { inside = omega (arith, e); before = l.invariant.good; here = λ h. absurd (omega (arith, e, h)); adds = l.invariant.adds })
