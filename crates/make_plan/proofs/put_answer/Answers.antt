use Rattle.std.proofs.Common.{ℕ, length, arith, ap, sym, ◌∙◌}
use Rattle.lists.specs.Answers.{with_room}
use Rattle.report.specs.Printed.{plan_text, refusal_lines}
use Rattle.report.proofs.Answered.{err-lines, err-left, refusal-front}
use Rattle.make_plan.proofs.put_answer.Goals as goal

pub returns-in-Err : goal.returns-in-Err
returns-in-Err c =
    let o = with_room (length c.args.out.now) (plan_text c.args.text.now) in
    let r = c.in-Err.refusal in
    let told = sym c.in-Err.ensures.value in
    let left = err-left r o _ _ told c.in-Err.ensures.out_after in
    let f = refusal-front c.number.result r.place r.second _ _ _ (omega (arith, c.requires, ap length left)) c.put_refusal.ensures in
    record { prefix_len = f.0; out_after = f.1 ∙ ap (λ (m : ℕ). refusal_lines m r.place r.second) c.number.ensures ∙ sym (err-lines r o told) }
