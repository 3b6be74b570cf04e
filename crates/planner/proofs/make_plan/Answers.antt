-- `planner::make_plan` meets its contract: 19 for a number that is no lag, the judge's refusal is passed on, and the rest is `plan_good`.
use mathlib.Core.Path.{◌≡◌, sym, ap, ◌∙◌}
use Prim.Native.Nat.{ℕ}
use mathlib.Core.List.{List}
use lib.ListN.{length}
use Rattle.std.proofs.Common.{rules}
use Rattle.std.specs.Prelude.{Err}
use Rattle.model.specs.Outcome.{good}
use Rattle.lists.specs.Lists.{network_of}
use Rattle.lists.specs.Answers.{with_room, lent}
use Rattle.lists.specs.Refusals.{counted}
use Rattle.lists.proofs.Refusals.{judged-good}
use Rattle.forms.proofs.Good.{good-network}
use Rattle.planner.specs.Planned.{even_plan}
use Rattle.planner.proofs.Judged.{lag-most, planned-outside, planned-good, planned-refused}
use Rattle.planner.proofs.make_plan.Goals as goal

pub returns-then-not-is_lag : goal.returns-then-not-is_lag
returns-then-not-is_lag c = let a = c.args in
    let o = a.out.now in
    let e = planned-outside _ a.network.now (sym c.is_lag.ensures ∙ c.if-not-is_lag.true) in record {
      value = sym (ap (λ p. counted (with_room (length o) p)) e);
      out_after = sym (ap (λ p. lent (with_room (length o) p) o) e);
    }

pub returns-in_err-network : goal.returns-in_err-network
returns-in_err-network c =
    let r = c.in_err-network.field-0.0 in
    let e : c.from_residual.result ≡ Err r = search rules in
    let k = planned-refused _ c.args.network.now r c.args.out.now (sym c.is_lag.ensures ∙ c.if-not-is_lag.false) (sym c.judge_network.ensures ∙ c.in_err-network.was) in
    record { value = e ∙ sym k.0; out_after = sym k.1 }

pub plan_good-requires : goal.plan_good-requires
plan_good-requires c = lag-most _ (sym c.is_lag.ensures ∙ c.if-not-is_lag.false)

pub returns : goal.returns
returns c =
    let o = c.args.out.now in
    let g = judged-good _ _ (sym c.judge_network.ensures ∙ c.in_ok-network.was) in
    -- what is judged good is the list itself
    let k : c.in_ok-network.network ≡ c.args.network.now = (good-network _ _ g).0 in
    let e = planned-good _ c.args.network.now (sym c.is_lag.ensures ∙ c.if-not-is_lag.false) (g ∙ ap good k) in
    let same = ap (λ (l : List ℕ). even_plan c.args.lag (network_of l)) k ∙ sym e in
    record {
      value = c.plan_good.ensures.value ∙ ap (λ p. counted (with_room (length o) p)) same;
      out_after = c.plan_good.ensures.out_after ∙ ap (λ p. lent (with_room (length o) p) o) same;
    }
