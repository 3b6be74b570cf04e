use Rattle.std.proofs.Common.{◌≡◌, ◌≤◌, ◌<◌, min, drop, length, get_or, arith, sym, ap, refl, ◌∙◌}
use Rattle.desks.specs.Run.{event, next, log, after}
use Rattle.desk_calls.specs.Calls.{call_of, told}
use Rattle.desk_calls.specs.declared.calls.Call.TheVariants.{Submit}
use Rattle.desk_calls.proofs.Runs.{after_more, put_more}
use Rattle.desk_calls.proofs.Numbered.{run-numbers}
use Rattle.desk_calls.proofs.calls.run.Goals as goal

pub loop-i-init : goal.loop-i-init
unfolding after log
loop-i-init c = record { state = c.none_waiting-desks.ensures; told = refl }

pub loop-i-preserved : goal.loop-i-preserved
loop-i-preserved c =
    let calls = c.args.calls.now in
    let i = c.loop-i.i in
    let here = c.loop-i.invariant in
    let none = Submit 0 0 in
    let h : i < length calls = omega (arith, c.loop-i-test.true, c.min-i-end.ensures) in
    let l : i < length c.loop-i.answers = omega (arith, c.loop-i-test.true, c.min-i-end.ensures, c.loop-i.auto.answers) in
    record {
      state = c.make.ensures.desks_value ∙ ap (next (call_of (get_or calls i none))) here.state ∙ sym (after_more calls i none h);
      told = put_more calls i none h c.loop-i.answers c.args.answers.now c.make.result l here.told
          (c.make.ensures.answer_value ∙ ap (λ s. told (event (call_of (get_or calls i none)) s)) here.state);
    }

pub returns-clause-numbers : goal.returns-clause-numbers
returns-clause-numbers c =
    let calls = c.args.calls.now in
    let i = c.loop-i.i in
    let all : i ≡ min (length calls) (length c.args.answers.now) = omega (arith, c.loop-i-test.false, c.loop-i.auto.i-end, c.min-i-end.ensures) in
    let low : i ≤ length calls = omega (arith, all) in
    run-numbers calls i _ c.loop-i.answers (drop i c.args.answers.now) low c.loop-i.invariant.told all
