-- `judges::ranges::rules_in` meets its contract.
use Prim.Native.Nat.{ℕ, ◌+◌}
use mathlib.Core.Path.{◌≡◌, sym, ap, ◌∙◌, subst⁻¹}
use lib.Dec.{T}
use Rattle.lists.specs.Lists.{at, table_sizes, rule_at}
use Rattle.lists.specs.declared.RuleTables.{RuleTables}
use Rattle.judges.proofs.InRange.{decides-yes, decides-no, untrue, set_same}
use Rattle.judges.proofs.RulesInRange.{rules-more}
use native.Mathlib.Omega.{arith}
use Rattle.judges.proofs.ranges.rules_in.Goals as goal
use Rattle.judges.proofs.ranges.rules_in.Goals.{After-rule_at-at}

-- what is read in a turn
here : (c : After-rule_at-at) → c.rule_at-at.result ≡ rule_at (table_sizes c.args.list.now) c.loop-t.t
here c = c.rule_at-at.ensures ∙ ap (λ (n : RuleTables). rule_at n c.loop-t.t) c.requires.1

pub rule_at-at-requires : goal.rule_at-at-requires
rule_at-at-requires c = (omega (arith, c.requires.0.switches, ap (λ (n : RuleTables). n.switches) c.requires.1), omega (arith, c.loop-t-test.true, c.requires.0.tunnels, ap (λ (n : RuleTables). n.tunnels) c.requires.1))

pub returns-then-not-is_set : goal.returns-then-not-is_set
returns-then-not-is_set c = decides-no (λ a. untrue _ (sym c.is_set.ensures ∙ c.if-not-is_set.true) (set_same c.args.list.now _ _ _ _ (sym (ap (λ (n : RuleTables). n.switches) c.requires.1)) (sym (here ((goal.at.returns-then-not-is_set c).After-rule_at-at))) (a.via _ c.loop-t-test.true)))

pub returns-then-list-at-lt-KEEP : goal.returns-then-list-at-lt-KEEP
returns-then-list-at-lt-KEEP c = decides-no (λ a. absurd (omega (arith, ap (λ (i : ℕ). at c.args.list.now (i + 1)) (here ((goal.at.returns-then-list-at-lt-KEEP c).After-rule_at-at)), a.least _ c.loop-t-test.true, c.if-list-at-lt-KEEP.true)))

pub returns-then-list-at-gt-REMOVE : goal.returns-then-list-at-gt-REMOVE
returns-then-list-at-gt-REMOVE c = decides-no (λ a. absurd (omega (arith, ap (λ (i : ℕ). at c.args.list.now (i + 1)) (here ((goal.at.returns-then-list-at-gt-REMOVE c).After-rule_at-at)), a.most _ c.loop-t-test.true, c.if-list-at-gt-REMOVE.true)))

pub loop-t-preserved : goal.loop-t-preserved
loop-t-preserved c = (rules-more _ _ c.loop-t.invariant
    (set_same c.args.list.now _ _ _ _ (ap (λ (n : RuleTables). n.switches) c.requires.1) (here ((goal.at.loop-t-preserved c).After-rule_at-at)) (subst⁻¹ T (sym c.is_set.ensures ∙ c.if-not-is_set.false) tt))
    (omega (arith, ap (λ (i : ℕ). at c.args.list.now (i + 1)) (here ((goal.at.loop-t-preserved c).After-rule_at-at)), c.if-list-at-lt-KEEP.false))
    (omega (arith, ap (λ (i : ℕ). at c.args.list.now (i + 1)) (here ((goal.at.loop-t-preserved c).After-rule_at-at)), c.if-list-at-gt-REMOVE.false))
    )

pub returns : goal.returns
returns c = let e : c.loop-t.t ≡ c.args.sizes.tunnels = omega (arith, c.loop-t.auto.t-end) in decides-yes (rw (← e) c.loop-t.invariant)
