-- `staging::stages::run` meets its contract: the stages so far are those of the definition. Assumes nothing.
use native.Mathlib.Omega.{arith}
use Rattle.rules.specs.Lists.{rules_of}
use Rattle.staging.proofs.Runs.{last-is, ready-adds, ready-removes, staged-on, staged-at}
use Rattle.staging.proofs.Turns.{last-most}
use Rattle.staging.proofs.stages.run.Goals as goal

pub overflow_mul-unit : goal.overflow_mul-unit
overflow_mul-unit c = omega (arith, last-is (rules_of c.args.rules.now) _ _ c.slack.ensures.value c.last_step-last.ensures, last-most (rules_of c.args.rules.now) (omega (arith, c.slack.ensures)))

pub pass-requires : goal.pass-requires
pass-requires c =
    ready-adds _ _ c.slack.ensures.good c.requires.spares _ (last-is (rules_of c.args.rules.now) _ _ c.slack.ensures.value c.last_step-last.ensures) _ c.loop-before-test.true _ _ _ c.loop-before.invariant

pub pass-requires-in-loop-before : goal.pass-requires-in-loop-before
pass-requires-in-loop-before c =
    ready-removes _ _ c.slack.ensures.good c.requires.spares _ (last-is (rules_of c.args.rules.now) _ _ c.slack.ensures.value c.last_step-last.ensures) _ c.loop-before-test.true _ _ _ c.loop-before.invariant _ _ c.pass.ensures

pub loop-before-preserved : goal.loop-before-preserved
loop-before-preserved c =
    staged-on _ _ c.slack.ensures.good c.requires.spares _ (last-is (rules_of c.args.rules.now) _ _ c.slack.ensures.value c.last_step-last.ensures) _ c.loop-before-test.true _ _ _ c.loop-before.invariant _ _ c.pass.ensures _ _ c.pass-in-loop-before.ensures

pub returns : goal.returns
returns c =
    let e = last-is (rules_of c.args.rules.now) _ _ c.slack.ensures.value c.last_step-last.ensures in
    staged-at _ _ _ _ _ _ c.loop-before.invariant (omega (arith, e, c.loop-before-test.false, c.loop-before.auto.before-end))
