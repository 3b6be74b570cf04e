-- `writers::write::write_plan` meets its contract.
use mathlib.Core.Path.{sym, ◌∙◌}
use Rattle.forms.specs.declared.form.Form.TheVariants.{Plan}
use Rattle.writers.proofs.Written.{ok-written}
use Rattle.writers.proofs.write.write_plan.Goals as goal

pub returns-clause-out_after : goal.returns-clause-out_after
returns-clause-out_after c = ok-written Plan _ _ (sym c.judge_plan.ensures ∙ c.in_ok-plan.was) _ (c.plan_needed-plan_size.ensures.fits c.if-out-plan_size.false) c.put_plan.ensures
