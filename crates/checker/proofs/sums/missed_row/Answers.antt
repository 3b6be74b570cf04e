-- `checker::sums::missed_row` meets its contract.
use Prim.Native.Nat.{ℕ, ◌+◌, ◌≤◌, suc}
use mathlib.Core.Path.{◌≡◌, sym, ap, subst}
use mathlib.Core.Option.{none}
use native.Mathlib.Omega.{arith}
use Rattle.model.specs.Limits.{most_flows}
use Rattle.model.specs.Search.{first}
use Rattle.model.specs.Rule.{missed_in, missed_row}
use Rattle.model.proofs.Searches.{first-zero, first_on, first-at}
use Rattle.lists.specs.Lists.{network_of, plan_of}
use Rattle.checker.specs.Inner.{FirstMissed, missed_of}
use Rattle.checker.proofs.Totals.{row-met, row-missed, first-row-met, last-row-met}
use Rattle.checker.proofs.sums.missed_row.Goals as goal
use Rattle.checker.proofs.sums.missed_row.Goals.{After-missed_flow}

-- what a turn finds of its row, and in how many parts
module _ (c : After-missed_flow) where
  few : (network_of c.args.pair.now.network).flows ≤ most_flows
  unfolding network_of
  few = c.plan-plan.ensures.checkable.network.ranges.sized.counts.flows

  parts : c.parts.result ≡ (plan_of c.args.pair.now.plan).parts
  parts = rw c.plan-plan.ensures.value at c.parts.ensures.value

  found : FirstMissed (network_of c.args.pair.now.network) c.parts.result c.row_sums-sums.result c.missed_flow.result
  found = rw c.network.ensures.value at c.missed_flow.ensures

pub loop-row-init : goal.loop-row-init
loop-row-init c = first_on _ _ (first-zero _) (first-row-met _ _ c.plan-plan.ensures.checkable.network.sums)

pub returns-in-Some : goal.returns-in-Some
unfolding missed_row
returns-in-Some c =
    let a = (goal.at.returns-in-Some c).After-missed_flow in
    let steps = rw c.plan-plan.ensures.value at c.steps-row-end.ensures.value in
    let m = row-missed (network_of c.args.pair.now.network) (plan_of c.args.pair.now.plan) c.loop-row.row _ _ (parts a) c.row_sums-sums.ensures (few a) _ (rw c.in-Some.is at (found a)) in
    sym (ap missed_of (first-at _ c.loop-row.row (suc (plan_of c.args.pair.now.plan).steps) _ c.loop-row.invariant m (omega (arith, steps))))

pub loop-row-preserved : goal.loop-row-preserved
loop-row-preserved c =
    let a = (goal.at.loop-row-preserved c).After-missed_flow in
    first_on _ _ c.loop-row.invariant (row-met (network_of c.args.pair.now.network) (plan_of c.args.pair.now.plan) c.loop-row.row _ _ (parts a) c.row_sums-sums.ensures (few a) (rw c.in_default.is at (found a)))

pub returns : goal.returns
unfolding missed_row
returns c =
    let N = network_of c.args.pair.now.network in
    let P = plan_of c.args.pair.now.plan in
    let steps = rw c.plan-plan.ensures.value at c.steps-row-end.ensures.value in
    let e : c.loop-row.row ≡ P.steps = omega (arith, steps, c.steps-row-end.ensures.some) in
    let before = subst (λ (n : ℕ). first n (λ b. first N.flows (missed_in N P b)) ≡ none) e c.loop-row.invariant in
    let last : P.steps + 1 ≡ suc P.steps = omega arith in
    sym (ap missed_of (subst (λ (n : ℕ). first n (λ b. first N.flows (missed_in N P b)) ≡ none) last (first_on _ _ before (last-row-met N P c.plan-plan.ensures.checkable.network.sums (omega (arith, steps, c.steps-row-end.ensures.some))))))
