-- `judges::judge::judge_rules` meets its contract.
use mathlib.Core.Path.{refl, sym, ap, ◌∙◌}
use Rattle.lists.specs.Refusals.{counted}
use Rattle.forms.specs.Read.{add_up, judge_numbers}
use Rattle.forms.specs.declared.form.Form.TheVariants.{Rules}
use Rattle.forms.proofs.Walks.{good-judged, rules-no-sums}
use Rattle.judges.proofs.judge.judge_rules.Goals as goal

pub returns-then-is_rules : goal.returns-then-is_rules
unfolding add_up
returns-then-is_rules c = sym (ap counted (good-judged Rules _ (c.is_rules.ensures.yes c.if-is_rules.true) refl))

pub returns-else-is_rules : goal.returns-else-is_rules
returns-else-is_rules c = c.judge_numbers.ensures ∙ ap counted (sym (rules-no-sums (judge_numbers Rules c.args.list.now)))
