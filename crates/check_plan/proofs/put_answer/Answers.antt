use Rattle.std.proofs.Common.{ℕ, arith, ap, ◌∙◌}
use Rattle.forms.specs.Bytes.{bytes}
use Rattle.report.specs.Printed.{printed_check, refusal_lines}
use Rattle.report.proofs.Answered.{puts-front, refusal-front}
use Rattle.check_plan.proofs.put_answer.Goals as goal

pub returns-in-Ok-clause-out_after : goal.returns-in-Ok-clause-out_after
returns-in-Ok-clause-out_after c =
    let f = puts-front (bytes "accepted=1\n") _ _ _ (omega (arith, c.requires)) c.put.ensures in
    f.1 ∙ ap printed_check c.in-Ok.ensures

pub returns-in-Err : goal.returns-in-Err
returns-in-Err c =
    let r = c.in-Err.refusal in
    let f = refusal-front c.number.result r.place r.second _ _ _ c.requires c.put_refusal.ensures in
    record { prefix_len = f.0; out_after = f.1 ∙ ap (λ (m : ℕ). refusal_lines m r.place r.second) c.number.ensures ∙ ap printed_check c.in-Err.ensures }
