-- `overloads::steps::first_overload` meets its contract.
use Prim.Native.Nat.{ℕ}
use mathlib.Core.Path.{◌≡◌, refl, sym, ap, ◌∙◌, subst}
use mathlib.Core.Option.{none}
use Rattle.std.proofs.Common.{rules}
use Rattle.model.specs.Search.{first}
use Rattle.model.specs.Scan.{test_link}
use Rattle.model.specs.Rule.{step_count, worst_over, first_overload}
use Rattle.model.proofs.Searches.{first-zero, first_on}
use Rattle.model.proofs.Scans.{step-on, scan-at, scan-end, test_step}
use Rattle.lists.specs.Lists.{network_of, plan_of}
use Rattle.loads.proofs.ByFlow.{room-enough}
use Rattle.overloads.specs.Inner.{overload_of}
use Rattle.overloads.proofs.Overloads.{over_in, over_none, over-some}
use Rattle.overloads.proofs.Blocks.{in-first, in-next, block-few, cause_in, steps-counted}
use native.Mathlib.Omega.{arith}
use Rattle.overloads.proofs.steps.first_overload.Goals as goal
use Rattle.overloads.proofs.steps.first_overload.Goals.{After-over}

-- the cause that is found on a link is the rule's
cause : (c : After-over) → c.over.result ≡ over_in c.args.lag (network_of c.args.pair.now.network) (plan_of c.args.pair.now.plan) c.steps.i c.loop-l.l
cause c =
    c.over.ensures
    ∙ cause_in c.args.lag (network_of c.args.pair.now.network) (plan_of c.args.pair.now.plan) c.steps.i c.steps.k c.loop-l.l (omega (arith, c.steps-test.true, steps-counted c.args.lag (network_of c.args.pair.now.network) c.args.pair.now.plan)) c.steps.invariant.block.low (omega (arith, c.loop-l-test.true, rw c.network.ensures.value at c.links-links.ensures.value)) _ _ c.of_all-bounds.ensures c.block_loads.ensures

pub steps-init : goal.steps-init
steps-init c = record { nothing = refl; block = in-first _ _ _ _ c.requires.1 (search rules); passed = first-zero _ }

pub loop-l-init : goal.loop-l-init
loop-l-init c = record { nothing = c.steps.invariant.nothing; passed = first-zero _ }

pub over-requires : goal.over-requires
over-requires c = (
  omega arith,
  omega (arith, c.steps.invariant.block.low.1, block-few c.args.lag (network_of c.args.pair.now.network) (plan_of c.args.pair.now.plan)),
  room-enough _ _ _ _ _ (omega (arith, rw c.network.ensures.value at c.links-links.ensures.value)) (omega arith) c.block_loads.ensures.within,
)

pub loop-l-preserved : goal.loop-l-preserved
loop-l-preserved c = record {
  nothing = c.loop-l.invariant.nothing;
  passed = first_on _ _ c.loop-l.invariant.passed (over_none c.args.lag (network_of c.args.pair.now.network) (plan_of c.args.pair.now.plan) _ _ (sym (cause ((goal.at.loop-l-preserved c).After-over)) ∙ c.in_default.is));
}

pub next_in_block-k-requires : goal.next_in_block-k-requires
next_in_block-k-requires c = (omega (arith, c.steps.invariant.block.low.1, c.block_steps-in_block.ensures), omega (arith, block-few c.args.lag (network_of c.args.pair.now.network) (plan_of c.args.pair.now.plan), c.block_steps-in_block.ensures))

pub steps-preserved : goal.steps-preserved
steps-preserved c = let e : c.loop-l.l ≡ (network_of c.args.pair.now.network).links = omega (arith, c.loop-l-test.false, rw c.network.ensures.value at c.links-links.ensures.value) in
    record {
      nothing = c.loop-l.invariant.nothing;
      block = in-next _ _ _ _ _ _ _ c.steps.invariant.block.low.0 (rw c.block_steps-in_block.ensures at c.next_in_block-k.ensures) c.block_loads.ensures;
      passed = step-on c.steps.i _ _ _ c.steps.invariant.passed (subst (λ (n : ℕ). first n (test_link (worst_over c.args.lag (network_of c.args.pair.now.network) (plan_of c.args.pair.now.plan)) c.steps.i) ≡ none) e c.loop-l.invariant.passed);
    }

pub returns-after-steps : goal.returns-after-steps
unfolding first_overload
returns-after-steps c = let e : c.steps.i ≡ step_count c.args.lag (network_of c.args.pair.now.network) (plan_of c.args.pair.now.plan) = omega (arith, c.steps-test.false, steps-counted c.args.lag (network_of c.args.pair.now.network) c.args.pair.now.plan) in
    c.steps.invariant.nothing
    ∙ ap overload_of (sym (scan-end _ _ (worst_over c.args.lag (network_of c.args.pair.now.network) (plan_of c.args.pair.now.plan)) (subst (λ (n : ℕ). first n (test_step (network_of c.args.pair.now.network).links (worst_over c.args.lag (network_of c.args.pair.now.network) (plan_of c.args.pair.now.plan))) ≡ none) e c.steps.invariant.passed)))

pub returns-in-Some : goal.returns-in-Some
unfolding first_overload
returns-in-Some c = let o = over-some c.args.lag (network_of c.args.pair.now.network) (plan_of c.args.pair.now.plan) c.steps.i c.loop-l.l c.in-Some.cause (sym (cause ((goal.at.returns-in-Some c).After-over)) ∙ c.in-Some.is) in
    sym o.2
    ∙ ap overload_of (sym (scan-at _ _ (worst_over c.args.lag (network_of c.args.pair.now.network) (plan_of c.args.pair.now.plan)) c.steps.i c.loop-l.l o.0 c.steps.invariant.passed c.loop-l.invariant.passed o.1 (omega (arith, c.steps-test.true, steps-counted c.args.lag (network_of c.args.pair.now.network) c.args.pair.now.plan)) (omega (arith, c.loop-l-test.true, rw c.network.ensures.value at c.links-links.ensures.value))))
