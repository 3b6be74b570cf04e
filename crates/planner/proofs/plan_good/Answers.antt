-- `planner::plan_good` meets its contract: each return is a case of the definition.
use Prim.Native.Nat.{ℕ}
use mathlib.Core.Path.{◌≡◌, sym, ap, ◌∙◌}
use mathlib.Core.List.{List}
use mathlib.Core.Option.{some}
use native.Mathlib.Omega.{arith}
use lib.ListN.{length}
use Rattle.std.specs.Prelude.{Ok, Err}
use Rattle.model.specs.Limits.{most_steps}
use Rattle.model.specs.Rule.{first_overload}
use Rattle.model.specs.Even.{even, fewest}
use Rattle.model.proofs.Bounded.{fewest-some}
use Rattle.lists.specs.Lists.{network_of, plan_size}
use Rattle.lists.specs.declared.PlanSizes.{PlanSizes}
use Rattle.lists.specs.declared.refusal.Refusal.{Refusal}
use Rattle.model.specs.declared.Cause.TheVariants.{NoRoom}
use Rattle.lists.specs.Refusals.{counted}
use Rattle.planner.specs.Planned.{even_list, stuck}
use Rattle.planner.specs.Search.{answered}
use Rattle.planner.proofs.EvenLists.{list_length}
use Rattle.planner.proofs.Planned.{answered-some, answered-none, no-plan, room-short, room-enough}
use Rattle.planner.proofs.plan_good.Goals as goal
use Rattle.planner.proofs.plan_good.Goals.{After-row_at-size, In-Some}

found : (c : In-Some) → fewest c.args.lag (network_of c.args.network.now) ≡ some c.in-Some.q
found c = answered-some _ _ (sym (c.fewest_steps.ensures ∙ ap (λ (l : List ℕ). answered (fewest c.args.lag (network_of l))) c.of-sums.ensures) ∙ c.in-Some.is)

-- the size is the length of the plan's list
size : (c : After-row_at-size) → c.row_at-size.result ≡ length (even_list (network_of c.args.network.now) c.in-Some.q)
size c = c.row_at-size.ensures ∙ ap (λ (n : PlanSizes). plan_size n) c.plan_sizes-sizes.ensures.value ∙ sym (list_length _ _)

pub of-sums-requires : goal.of-sums-requires
of-sums-requires c = c.new-tables.ensures _

pub returns-in_default : goal.returns-in_default
returns-in_default c =
    let k = no-plan _ _ c.args.out.now (answered-none _ (sym (c.fewest_steps.ensures ∙ ap (λ (l : List ℕ). answered (fewest c.args.lag (network_of l))) c.of-sums.ensures) ∙ c.in_default.is)) in
    let here = ap (λ (l : List ℕ). counted (stuck (first_overload c.args.lag (network_of l) (even (network_of l) most_steps)))) c.of-sums.ensures in
    record { value = c.first_overload.ensures ∙ here ∙ sym k.0; out_after = sym k.1 }

pub row_at-size-requires : goal.row_at-size-requires
row_at-size-requires c = let f = fewest-some _ _ _ (found ((goal.at.row_at-size-requires c).In-Some)) in
    let s = ap (λ (n : PlanSizes). n.steps) c.plan_sizes-sizes.ensures.value in
    (omega (arith, s, f), omega (arith, s, f), c.plan_sizes-sizes.ensures.most)

pub returns-then-out-size : goal.returns-then-out-size
returns-then-out-size c = let n = size ((goal.at.returns-then-out-size c).After-row_at-size) in
    let k = room-short _ _ c.args.out.now _ (found ((goal.at.returns-then-out-size c).In-Some)) (omega (arith, n, c.if-out-size.true)) in record {
      value = ap (λ (r : Refusal). Err r) c.no_room.ensures ∙ ap (λ (m : ℕ). Err (record { cause = NoRoom; place = m; second = 0 })) n ∙ sym k.0;
      out_after = sym k.1;
    }

pub write_plan-requires : goal.write_plan-requires
write_plan-requires c = let f = fewest-some _ _ _ (found ((goal.at.write_plan-requires c).In-Some)) in
    (f.0, f.1, omega (arith, size ((goal.at.write_plan-requires c).After-row_at-size), c.if-out-size.false))

pub returns : goal.returns
returns c = let n = size ((goal.at.returns c).After-row_at-size) in
    let k = room-enough _ _ c.args.out.now _ (found ((goal.at.returns c).In-Some)) (omega (arith, n, c.if-out-size.false)) in record {
      value = ap (λ (m : ℕ). Ok m) n ∙ sym k.0;
      out_after = c.write_plan.ensures ∙ sym k.1;
    }
