use Rattle.std.proofs.Common.{◌≡◌, List, ℕ, length, sym, ap, ◌∙◌, rules}
use Rattle.std.specs.declared.result.Result.TheVariants.{Err}
use Rattle.model.specs.Outcome.{Outcome, and_then}
use Rattle.lists.specs.Answers.{with_room, lent}
use Rattle.lists.specs.Refusals.{counted}
use Rattle.lists.specs.Lists.{link_at, flow_at, tunnel_at, most_network}
use Rattle.lists.proofs.Refusals.{err-then, err-room}
use Rattle.forms.specs.Named.{read_network, write_plan}
use Rattle.planner.specs.Planned.{planned}
use Rattle.report.proofs.Room.{network-fits, planned-fits, given}
use Rattle.make_plan.proofs.plan_text.Goals as goal

-- the network is refused, and so is the text
pub returns-in_err-length : goal.returns-in_err-length
unfolding most_network link_at flow_at tunnel_at
returns-in_err-length c =
    let text = c.args.text.now in
    let r = c.in_err-length.field-0.0 in
    let e : c.from_residual.result ≡ Err r = search rules in
    let next : List ℕ → Outcome (List ℕ) = λ n. and_then (planned 1 n) write_plan in
    let f = err-then r (read_network text) next (ap counted (sym (network-fits text)) ∙ sym c.read_network.ensures.value ∙ c.in_err-length.was) in
    let k = err-room r (and_then (read_network text) next) c.args.out.now f in
    record { value = e ∙ sym k.0; out_after = sym k.1 }

-- the network is read, and no plan is made
pub returns-in_err-size : goal.returns-in_err-size
unfolding most_network link_at flow_at tunnel_at
returns-in_err-size c =
    let text = c.args.text.now in
    let out = c.args.out.now in
    let r = c.in_err-size.field-0.0 in
    let e : c.from_residual-in_err-size.result ≡ Err r = search rules in
    let read = given most_network (read_network text) _ _ _ (network-fits text) (sym c.read_network.ensures.value ∙ c.in_ok-length.was) c.read_network.ensures.out_after in
    let then-planned = ap (λ (o : Outcome (List ℕ)). and_then o (λ n. and_then (planned 1 n) write_plan)) read.outcome in
    let f = err-then r (planned 1 _) write_plan (ap counted (sym (planned-fits _)) ∙ sym c.make_plan.ensures.value ∙ c.in_err-size.was) in
    let k = err-room r (and_then (planned 1 _) write_plan) out f in
    record {
      value = e ∙ sym k.0 ∙ sym (ap (λ (o : Outcome (List ℕ)). counted (with_room (length out) o)) then-planned);
      out_after = sym k.1 ∙ sym (ap (λ (o : Outcome (List ℕ)). lent (with_room (length out) o) out) then-planned);
    }
