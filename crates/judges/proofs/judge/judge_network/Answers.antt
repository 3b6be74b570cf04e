-- `judges::judge::judge_network` meets its contract.
use mathlib.Core.Path.{sym, ap, ◌∙◌}
use Rattle.lists.specs.Refusals.{judged}
use Rattle.lists.proofs.Positions.{head_in}
use Rattle.forms.specs.Form.{Whole}
use Rattle.forms.specs.declared.form.Form.TheVariants.{Network}
use Rattle.forms.proofs.Good.{network-ranges}
use Rattle.judges.proofs.Results.{whole-counted, whole-sums}
use Rattle.judges.proofs.judge.judge_network.Goals as goal
use Rattle.judges.proofs.judge.judge_network.Goals.{Joined-not-is_network, then-not-is_network+in_ok-judge_numbers, else-not-is_network}

-- either way the list is whole
whole : (c : Joined-not-is_network) → Whole Network c.args.list.now
whole c = elim c.if-not-is_network.branch [
  | then-not-is_network+in_ok-judge_numbers w ↦ whole-counted Network _ _ (sym w.judge_numbers.ensures ∙ w.in_ok-judge_numbers.was)
  | else-not-is_network w ↦ c.is_network.ensures.yes w.if-not-is_network.false
]

pub of-requires : goal.of-requires
of-requires c = head_in _ (network-ranges _ (whole c)).sized.size

pub add_up-requires : goal.add_up-requires
add_up-requires c = (network-ranges _ (whole ((goal.at.add_up-requires c).Joined-not-is_network)), c.of.ensures)

pub returns : goal.returns
returns c = c.add_up.ensures ∙ sym (ap judged (whole-sums Network _ (whole ((goal.at.returns c).Joined-not-is_network))))
