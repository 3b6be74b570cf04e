-- `planner::rows::write_plan` meets its contract: the output has the list's head and the rows written, and then what it had.
use Prim.Native.Nat.{ℕ, ◌+◌, ◌-◌, ◌*◌, ◌≤◌}
use mathlib.Core.Path.{◌≡◌, sym, ap, ◌∙◌}
use mathlib.Core.List.{List, [], ◌∷◌, ◌++◌}
use native.Mathlib.Omega.{arith}
use lib.ListN.{length, length-set}
use Rattle.model.specs.Limits.{most_steps, most_tunnels}
use Rattle.lists.specs.Lists.{network_of}
use Rattle.lists.specs.declared.PlanSizes.{PlanSizes}
use Rattle.planner.specs.Planned.{even_list}
use Rattle.planner.proofs.EvenLists.{list_length, head-stored, head-length, head-rest, written_none, next-place, place-low, row-inside, row_on, written_all}
use Rattle.planner.proofs.rows.write_plan.Goals as goal
use Rattle.planner.proofs.rows.write_plan.Goals.{After-plan_sizes-sizes, In-loop-a}

fits_head : (c : After-plan_sizes-sizes) → 4 ≤ length c.args.out.now
fits_head c = omega (arith, c.requires.2, list_length (network_of c.args.network.now) c.args.q)

width : (c : After-plan_sizes-sizes) → c.plan_sizes-sizes.result.tunnels ≡ (network_of c.args.network.now).tunnels
width c = ap (λ (n : PlanSizes). n.tunnels) c.plan_sizes-sizes.ensures.value

small : (c : In-loop-a) → c.loop-a.at + (network_of c.args.network.now).tunnels ≤ 4 + most_steps * most_tunnels + most_tunnels
small c = place-low (network_of c.args.network.now) c.args.q c.loop-a.a c.loop-a.at c.loop-a-test.true c.requires.1 (omega (arith, ap (λ (n : PlanSizes). n.tunnels) c.plan_sizes-sizes.ensures.value, c.plan_sizes-sizes.ensures.most)) c.loop-a.invariant.place

pub bounds-out-0 : goal.bounds-out-0
bounds-out-0 c = omega (arith, fits_head c)

pub bounds-out-1 : goal.bounds-out-1
bounds-out-1 c = simp length-set (omega (arith, fits_head c))

pub bounds-out-2 : goal.bounds-out-2
bounds-out-2 c = simp length-set (omega (arith, fits_head c))

pub bounds-out-3 : goal.bounds-out-3
bounds-out-3 c = simp length-set (omega (arith, fits_head c))

pub loop-a-init : goal.loop-a-init
loop-a-init c = let N = network_of c.args.network.now in
    let o = c.args.out.now in
    let s = (goal.at.loop-a-init c).After-plan_sizes-sizes in
    record {
      place = omega (arith, c.row_at-at.ensures);
      written = rw (width s) (written_none N c.args.q _ _ (head-stored o c.args.q N.tunnels (fits_head s)
          ∙ ap (λ (r : List ℕ). (1 ∷ c.args.q ∷ c.args.q ∷ N.tunnels ∷ []) ++ r) (sym (head-rest o c.args.q N.tunnels 4 (omega arith)))));
    }

pub slice_bounds-write_row-end : goal.slice_bounds-write_row-end
slice_bounds-write_row-end c =
    row-inside (network_of c.args.network.now) c.args.q c.loop-a.a _ _ _ c.loop-a-test.true (rw (width ((goal.at.slice_bounds-write_row-end c).After-plan_sizes-sizes)) c.loop-a.invariant.place) (width ((goal.at.slice_bounds-write_row-end c).After-plan_sizes-sizes))
    (omega (arith, c.requires.2, c.loop-a.auto, head-length c.args.out.now c.args.q c.plan_sizes-sizes.result.tunnels)) (omega (arith, c.loop-a.auto))

pub overflow_add-at-in-loop-a : goal.overflow_add-at-in-loop-a
overflow_add-at-in-loop-a c = omega (arith, small ((goal.at.overflow_add-at-in-loop-a c).In-loop-a), width ((goal.at.overflow_add-at-in-loop-a c).After-plan_sizes-sizes))

pub loop-a-preserved : goal.loop-a-preserved
loop-a-preserved c =
    let w = width ((goal.at.loop-a-preserved c).After-plan_sizes-sizes) in
    record {
      place = omega (arith, c.loop-a.invariant.place, next-place (network_of c.args.network.now) c.loop-a.a (omega (arith, c.loop-a.auto)), w);
      written = row_on _ _ _ c.loop-a.a _ _ _ _ (omega (arith, c.loop-a.auto)) c.loop-a.invariant.written (rw w c.loop-a.invariant.place) w c.write_row.ensures;
    }

pub returns : goal.returns
returns c = let N = network_of c.args.network.now in
    let n : 4 ≤ length (even_list N c.args.q) = omega (arith, list_length N c.args.q) in
    written_all _ _ _ (c.loop-a.a - 1) _ c.loop-a.invariant.written (omega (arith, c.loop-a.auto, c.loop-a-test.false, c.requires.0))
    ∙ ap (λ (r : List ℕ). even_list N c.args.q ++ r) (head-rest c.args.out.now c.args.q _ _ n)
