use Rattle.std.proofs.Common.{ℕ, ◌≡◌, List, take, sym, ap, ◌∙◌, rules}
use Rattle.std.specs.declared.result.Result.TheVariants.{Err}
use Rattle.model.specs.Outcome.{Outcome}
use Rattle.model.specs.Limits.{most_tunnels}
use Rattle.lists.specs.Lists.{link_at, flow_at, tunnel_at, most_network, most_plan}
use Rattle.lists.specs.Refusals.{counted, done_with}
use Rattle.lists.specs.declared.Answer.{Answer}
use Rattle.forms.specs.Named.{read_network, read_plan}
use Rattle.checker.specs.Check.{verdict, checked}
use Rattle.checker.proofs.Checking.{checked-same}
use Rattle.report.proofs.Room.{network-fits, plan-fits, given}
use Rattle.report.proofs.Answered.{err-read}
use Rattle.report.specs.Printed.{on_read}
use Rattle.check_plan.proofs.check_texts.Goals as goal

abbrev after_plan : List ℕ → List ℕ → Answer
after_plan n p = checked n (verdict 1 n p most_tunnels)

abbrev after_network : List ℕ → List ℕ → Answer
after_network plan n = on_read (read_plan plan) (after_plan n)

-- the network is refused
pub returns-in_err-length : goal.returns-in_err-length
unfolding most_network link_at flow_at tunnel_at
returns-in_err-length c =
    let text = c.args.network.now in
    let r = c.in_err-length.field-0.0 in
    let e : c.from_residual.result ≡ Err r = search rules in
    ap done_with e ∙ err-read r (read_network text) (after_network c.args.plan.now) (ap counted (sym (network-fits text)) ∙ sym c.read_network.ensures.value ∙ c.in_err-length.was)

-- the network is read, and the plan is refused
pub returns-in_err-size : goal.returns-in_err-size
unfolding most_network link_at flow_at tunnel_at
returns-in_err-size c =
    let text = c.args.network.now in
    let plan = c.args.plan.now in
    let r = c.in_err-size.field-0.0 in
    let e : c.from_residual-in_err-size.result ≡ Err r = search rules in
    let read = given most_network (read_network text) _ _ _ (network-fits text) (sym c.read_network.ensures.value ∙ c.in_ok-length.was) c.read_network.ensures.out_after in
    let then-plan = ap (λ (o : Outcome (List ℕ)). on_read o (after_network plan)) read.outcome in
    ap done_with e ∙ err-read r (read_plan plan) (after_plan _) (ap counted (sym (plan-fits plan)) ∙ sym c.read_plan.ensures.value ∙ c.in_err-size.was) ∙ sym then-plan

-- both are read
pub returns : goal.returns
unfolding most_network link_at flow_at tunnel_at
returns c =
    let text = c.args.network.now in
    let plan = c.args.plan.now in
    let read = given most_network (read_network text) _ _ _ (network-fits text) (sym c.read_network.ensures.value ∙ c.in_ok-length.was) c.read_network.ensures.out_after in
    let then-plan = ap (λ (o : Outcome (List ℕ)). on_read o (after_network plan)) read.outcome in
    let listed = given most_plan (read_plan plan) _ _ _ (plan-fits plan) (sym c.read_plan.ensures.value ∙ c.in_ok-size.was) c.read_plan.ensures.out_after in
    let then-check = ap (λ (o : Outcome (List ℕ)). on_read o (after_plan (take c.in_ok-length.length c.read_network.new.out))) listed.outcome in
    ap done_with c.check_plan.ensures.value ∙ checked-same _ _ ∙ sym then-check ∙ sym then-plan
