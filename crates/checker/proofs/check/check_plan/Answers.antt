-- `checker::check::check_plan` meets its contract.
use mathlib.Core.Path.{sym, ◌∙◌}
use native.Mathlib.Omega.{arith}
use Rattle.checker.proofs.Pairs.{pair-judged}
use Rattle.checker.proofs.Checking.{steps-marks}
use Rattle.checker.proofs.check.check_plan.Goals as goal

pub returns-clause-marks_after : goal.returns-clause-marks_after
returns-clause-marks_after c =
    let j = pair-judged c.args.network.now c.args.plan.now c.in_ok-pair.pair (sym c.judge_pair.ensures ∙ c.in_ok-pair.was) in
    let n = rw c.network.ensures.value at c.tunnels-n.ensures.value in
    steps-marks c.args.lag c.args.network.now c.args.plan.now c.args.marks.now _ c.in_ok-pair.pair (sym c.is_lag.ensures ∙ c.if-not-is_lag.false) j.0 j.1 (omega (arith, n, c.if-marks-n.false)) c.check_steps.ensures.marks_after
