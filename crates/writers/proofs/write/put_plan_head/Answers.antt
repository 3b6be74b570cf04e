-- `writers::write::put_plan_head` meets its contract.
use native.Mathlib.Omega.{arith}
use Rattle.forms.specs.declared.form.Form.TheVariants.{Plan}
use Rattle.lengths.proofs.Runs.{plan-line, parts-line, steps-line, plan-tunnels-line, no_lines}
use Rattle.writers.proofs.Shown.{head-fits, head-next}
use Rattle.writers.proofs.write.put_plan_head.Goals as goal

pub put_line-parts-requires-clause-v_in_bounds : goal.put_line-parts-requires-clause-v_in_bounds
put_line-parts-requires-clause-v_in_bounds c =
    head-fits Plan _ _ c.requires c.numbers-list.ensures.numbers 0 (omega arith) (plan-line _ c.numbers-list.ensures.good) (no_lines Plan _ _ _ _)

pub put_line-steps-requires-clause-v_in_bounds : goal.put_line-steps-requires-clause-v_in_bounds
put_line-steps-requires-clause-v_in_bounds c =
    let one = head-next Plan _ _ c.requires c.numbers-list.ensures.numbers 0 (omega arith) (plan-line _ c.numbers-list.ensures.good) (no_lines Plan _ _ _ _) c.put_line-parts.ensures in
    head-fits Plan _ _ c.requires c.numbers-list.ensures.numbers 1 (omega arith) (parts-line _ c.numbers-list.ensures.good) one

pub put_line-tunnels-requires-clause-v_in_bounds : goal.put_line-tunnels-requires-clause-v_in_bounds
put_line-tunnels-requires-clause-v_in_bounds c =
    let one = head-next Plan _ _ c.requires c.numbers-list.ensures.numbers 0 (omega arith) (plan-line _ c.numbers-list.ensures.good) (no_lines Plan _ _ _ _) c.put_line-parts.ensures in
    let two = head-next Plan _ _ c.requires c.numbers-list.ensures.numbers 1 (omega arith) (parts-line _ c.numbers-list.ensures.good) one c.put_line-steps.ensures in
    head-fits Plan _ _ c.requires c.numbers-list.ensures.numbers 2 (omega arith) (steps-line _ c.numbers-list.ensures.good) two

pub put_line-requires-clause-v_in_bounds : goal.put_line-requires-clause-v_in_bounds
put_line-requires-clause-v_in_bounds c =
    let one = head-next Plan _ _ c.requires c.numbers-list.ensures.numbers 0 (omega arith) (plan-line _ c.numbers-list.ensures.good) (no_lines Plan _ _ _ _) c.put_line-parts.ensures in
    let two = head-next Plan _ _ c.requires c.numbers-list.ensures.numbers 1 (omega arith) (parts-line _ c.numbers-list.ensures.good) one c.put_line-steps.ensures in
    let three = head-next Plan _ _ c.requires c.numbers-list.ensures.numbers 2 (omega arith) (steps-line _ c.numbers-list.ensures.good) two c.put_line-tunnels.ensures in
    head-fits Plan _ _ c.requires c.numbers-list.ensures.numbers 3 (omega arith) (plan-tunnels-line _ c.numbers-list.ensures.good) three

pub returns : goal.returns
returns c =
    let one = head-next Plan _ _ c.requires c.numbers-list.ensures.numbers 0 (omega arith) (plan-line _ c.numbers-list.ensures.good) (no_lines Plan _ _ _ _) c.put_line-parts.ensures in
    let two = head-next Plan _ _ c.requires c.numbers-list.ensures.numbers 1 (omega arith) (parts-line _ c.numbers-list.ensures.good) one c.put_line-steps.ensures in
    let three = head-next Plan _ _ c.requires c.numbers-list.ensures.numbers 2 (omega arith) (steps-line _ c.numbers-list.ensures.good) two c.put_line-tunnels.ensures in
    head-next Plan _ _ c.requires c.numbers-list.ensures.numbers 3 (omega arith) (plan-tunnels-line _ c.numbers-list.ensures.good) three c.put_line.ensures
