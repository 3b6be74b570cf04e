-- `checker::check::check_steps` meets its contract.
use mathlib.Core.Path.{sym, ◌∙◌}
use native.Mathlib.Omega.{arith}
use Rattle.model.specs.Rule.{first_overload, step_count}
use Rattle.lists.specs.Lists.{network_of, plan_of}
use Rattle.checker.proofs.Checking.{Named, cleared, found_none, found_some, named-in, named-marks}
use Rattle.checker.proofs.check.check_steps.Goals as goal
use Rattle.checker.proofs.check.check_steps.Goals.{In-Some}

-- the overload that is found
named : (c : In-Some) → Named (first_overload c.args.lag (network_of c.args.pair.now.network) (plan_of c.args.pair.now.plan)) c.in-Some.overload.row c.in-Some.overload.link
named c = found_some _ _ (sym c.first_overload.ensures ∙ c.in-Some.is)

pub returns-in_default-clause-marks_after : goal.returns-in_default-clause-marks_after
returns-in_default-clause-marks_after c =
    let n = rw c.network.ensures.value at c.tunnels-n.ensures.value in
    cleared c.args.lag c.tunnels-n.result c.args.pair.now.network c.args.pair.now.plan c.args.marks.now _ n c.clear.ensures (found_none _ (sym c.first_overload.ensures ∙ c.in_default.is))

pub clear-requires : goal.clear-requires
clear-requires c = let m = rw c.network.ensures.value at c.tunnels-n.ensures.count in omega (arith, m, c.requires.2)

pub invariant_of-window : goal.invariant_of-window
unfolding network_of
invariant_of-window c =
    let s = named-in _ _ _ _ _ (named ((goal.at.invariant_of-window c).In-Some)) in
    record { there = record { steps = c.network.ensures.checkable.plan.steps.1; lag = c.requires.1; step = s.0; link = s.1 } }

pub overflow_add-step : goal.overflow_add-step
unfolding plan_of step_count
overflow_add-step c = let s = named-in _ _ _ _ _ (named ((goal.at.overflow_add-step c).In-Some)) in omega (arith, s.0, c.network.ensures.checkable.plan.steps)

pub returns-clause-marks_after : goal.returns-clause-marks_after
unfolding network_of
returns-clause-marks_after c = named-marks c.args.lag c.args.pair.now.network c.args.pair.now.plan _ _ _ _ (named ((goal.at.returns-clause-marks_after c).In-Some)) c.mark.ensures
