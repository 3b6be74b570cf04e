-- `staging::stage_good` meets its contract: each return is a case of the definition. Assumes nothing.
use mathlib.Core.Path.{ap, ◌∙◌}
use native.Mathlib.Omega.{arith}
use borrow.Author.Rules.{rules}
use Rattle.std.specs.declared.result.Result.TheVariants.{Ok, Err}
use Rattle.lists.specs.Refusals.{refusal}
use Rattle.model.specs.declared.Cause.TheVariants.{NoRoom as no_room}
use Rattle.staging.proofs.Answers.{stage-refused, stage-spares, stage-none, stage-all}
use Rattle.staging.proofs.stage_good.Goals as goal

pub returns-in_err-judge-clause-value : goal.returns-in_err-judge-clause-value
returns-in_err-judge-clause-value c = let p = (stage-refused _ c.args.out.now _ _ c.judge.ensures.0 _ (c.in_err-judge.was)).0 in search (rules, p)

pub returns-in_err-judge-clause-out_after : goal.returns-in_err-judge-clause-out_after
returns-in_err-judge-clause-out_after c = (stage-refused _ c.args.out.now _ _ c.judge.ensures.0 _ (c.in_err-judge.was)).1

pub returns-then-out-tunnels-clause-value : goal.returns-then-out-tunnels-clause-value
returns-then-out-tunnels-clause-value c =
    let n = c.tunnels-tunnels.ensures.count in
    ap Err c.no_room.ensures ∙ ap (λ k. Err (refusal no_room k 0)) n ∙ (stage-none _ c.args.out.now _ _ c.judge.ensures.0 (c.in_ok-judge.was) (omega (arith, n, c.if-out-tunnels.true))).0

pub returns-then-out-tunnels-clause-out_after : goal.returns-then-out-tunnels-clause-out_after
returns-then-out-tunnels-clause-out_after c =
    (stage-none _ c.args.out.now _ _ c.judge.ensures.0 (c.in_ok-judge.was) (omega (arith, c.tunnels-tunnels.ensures.count, c.if-out-tunnels.true))).1

pub give-requires-clause-spares : goal.give-requires-clause-spares
give-requires-clause-spares c = stage-spares _ c.args.out.now _ _ c.judge.ensures.0 (c.in_ok-judge.was)

pub returns-clause-value : goal.returns-clause-value
returns-clause-value c =
    let n = c.tunnels-tunnels.ensures.count in
    ap Ok n ∙ (stage-all _ c.args.out.now _ _ c.judge.ensures.0 (c.in_ok-judge.was) (omega (arith, n, c.if-out-tunnels.false))).0

pub returns-clause-out_after : goal.returns-clause-out_after
returns-clause-out_after c =
    c.give.ensures ∙ (stage-all _ c.args.out.now _ _ c.judge.ensures.0 (c.in_ok-judge.was) (omega (arith, c.tunnels-tunnels.ensures.count, c.if-out-tunnels.false))).1
