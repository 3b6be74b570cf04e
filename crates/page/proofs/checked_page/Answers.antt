-- `page::checked_page` meets its contract: the checker's refusals, and then the page of the step.
use mathlib.Core.Path.{◌≡◌, sym, ◌∙◌}
use mathlib.Core.Option.{none}
use borrow.Author.Rules.{rules}
use Rattle.model.specs.Limits.{most_tunnels}
use Rattle.model.specs.Outcome.{good}
use Rattle.checker.specs.Check.{verdict}
use Rattle.page.specs.Inner.{Accepted}
use Rattle.page.proofs.Answers.{check-refused, check-passed, after-pass, accepted}
use Rattle.page.proofs.checked_page.Goals as goal
use Rattle.page.proofs.checked_page.Goals.{In_ok-check_plan}

-- the checker accepts
passed : (c : In_ok-check_plan) → verdict 1 c.args.network.now c.args.plan.now most_tunnels ≡ good none
passed c = check-passed _ _ _ (sym c.check_plan.ensures.value ∙ c.in_ok-check_plan.was)

both : (c : In_ok-check_plan) → Accepted c.args.network.now c.args.plan.now
both c = accepted _ _ _ (passed c)

pub returns-in_err-check_plan : goal.returns-in_err-check_plan
returns-in_err-check_plan c =
    let r = check-refused c.args.network.now c.args.plan.now c.args.step _ c.args.out.now (sym c.check_plan.ensures.value ∙ c.in_err-check_plan.was) in
    record { value = rw r.0 (search rules); out_after = sym r.1 }

pub new-requires : goal.new-requires
new-requires c = (both ((goal.at.new-requires c).In_ok-check_plan)).both.network

pub new-requires-2 : goal.new-requires-2
new-requires-2 c = (both ((goal.at.new-requires-2 c).In_ok-check_plan)).both.plan

pub new-pair-requires : goal.new-pair-requires
new-pair-requires c = rw (c.new.ensures, c.new-2.ensures) (both ((goal.at.new-pair-requires c).In_ok-check_plan)).both

pub lay_out-requires : goal.lay_out-requires
lay_out-requires c = rw (c.new-pair.ensures, c.new.ensures, c.new-2.ensures) (both ((goal.at.lay_out-requires c).In_ok-check_plan))

pub returns : goal.returns
returns c =
    let s : c.new-pair.result ≡ record { network = c.args.network.now; plan = c.args.plan.now } = cc in
    let e = after-pass _ _ _ (passed ((goal.at.returns c).In_ok-check_plan)) c.args.step in
    record { value = rw e (rw s at c.lay_out.ensures.value); out_after = rw e (rw s at c.lay_out.ensures.out_after) }
