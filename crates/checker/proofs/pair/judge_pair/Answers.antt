-- `checker::pair::judge_pair` meets its contract.
use mathlib.Core.Path.{sym, ◌∙◌}
use Rattle.checker.proofs.Pairs.{pair-rows}
use Rattle.checker.proofs.pair.judge_pair.Goals as goal

pub returns : goal.returns
returns c = c.judge_rows.ensures ∙ pair-rows _ _ _ _ (sym c.judge_network.ensures ∙ c.in_ok-network.was) (sym c.judge_plan.ensures ∙ c.in_ok-plan.was)
