-- `judges::judge::judge_plan` meets its contract.
use mathlib.Core.Path.{sym, ap, ◌∙◌}
use Rattle.lists.specs.Refusals.{judged}
use Rattle.forms.specs.Form.{Whole}
use Rattle.forms.specs.Read.{add_up}
use Rattle.forms.specs.declared.form.Form.TheVariants.{Plan}
use Rattle.forms.proofs.Good.{plan-ranges}
use Rattle.judges.proofs.Results.{whole-counted, whole-sums}
use Rattle.judges.proofs.judge.judge_plan.Goals as goal
use Rattle.judges.proofs.judge.judge_plan.Goals.{Joined-not-is_plan, then-not-is_plan+in_ok-judge_numbers, else-not-is_plan}

-- either way the list is whole
whole : (c : Joined-not-is_plan) → Whole Plan c.args.list.now
whole c = elim c.if-not-is_plan.branch [
  | then-not-is_plan+in_ok-judge_numbers w ↦ whole-counted Plan _ _ (sym w.judge_numbers.ensures ∙ w.in_ok-judge_numbers.was)
  | else-not-is_plan w ↦ c.is_plan.ensures.yes w.if-not-is_plan.false
]

pub new-requires : goal.new-requires
new-requires c = plan-ranges _ (whole c)

pub returns : goal.returns
unfolding add_up
returns c = rw c.new.ensures (sym (ap judged (whole-sums Plan _ (whole ((goal.at.returns c).Joined-not-is_plan)))))
