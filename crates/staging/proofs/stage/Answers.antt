-- `staging::stage` meets its contract. Assumes nothing.
use mathlib.Core.Path.{sym, ◌∙◌}
use Rattle.rules.proofs.Good.{counted-rules}
use Rattle.staging.proofs.stage.Goals as goal

pub new-requires : goal.new-requires
new-requires c = (counted-rules c.args.list.now _ (sym c.judge_rules.ensures ∙ c.in_ok-judge_rules.was)).1

pub returns-clause-value : goal.returns-clause-value
returns-clause-value c =
    let g = (counted-rules c.args.list.now _ (sym c.judge_rules.ensures ∙ c.in_ok-judge_rules.was)).0 in
    rw g (rw c.new.ensures at c.stage_good.ensures.value)

pub returns-clause-out_after : goal.returns-clause-out_after
returns-clause-out_after c =
    let g = (counted-rules c.args.list.now _ (sym c.judge_rules.ensures ∙ c.in_ok-judge_rules.was)).0 in
    rw g (rw c.new.ensures at c.stage_good.ensures.out_after)
