-- `judges::ranges::rows_in` meets its contract.
use Prim.Native.Nat.{◌*◌}
use mathlib.Core.Path.{ap, subst, subst⁻¹}
use native.Mathlib.Omega.{arith}
use lib.ListN.{length}
use borrow.Author.Tests.{ne_eqb}
use Rattle.model.specs.Limits.{most_amount}
use Rattle.lists.specs.Lists.{plan_size}
use Rattle.lists.specs.declared.PlanSizes.{PlanSizes}
use Rattle.judges.specs.Ranges.{AmountsIn}
use Rattle.judges.proofs.InRange.{decides-no, decides-same}
use Rattle.judges.proofs.PlanInRange.{rows_whole, whole-rows}
use Rattle.judges.proofs.ranges.rows_in.Goals as goal

pub returns-then-list-row_at : goal.returns-then-list-row_at
returns-then-list-row_at c = decides-same _
    (λ a. rows_whole _ (record {
      head = c.requires.1;
      size = omega (arith, c.if-list-row_at.true, c.row_at.ensures, ap (λ (n : PlanSizes). plan_size n) c.of-sizes.ensures);
      amounts = subst (λ (n : PlanSizes). AmountsIn c.args.list.now (most_amount * n.parts) (length c.args.list.now)) c.of-sizes.ensures a;
    }))
    (λ w. subst⁻¹ (λ (n : PlanSizes). AmountsIn c.args.list.now (most_amount * n.parts) (length c.args.list.now)) c.of-sizes.ensures (whole-rows _ w).amounts) c.amounts_in.ensures

pub returns-else-list-row_at : goal.returns-else-list-row_at
returns-else-list-row_at c =
    rw (ne_eqb _ _ c.if-list-row_at.false) (decides-no (λ w. absurd (c.if-list-row_at.false (omega (arith, c.row_at.ensures, ap (λ (n : PlanSizes). plan_size n) c.of-sizes.ensures, (whole-rows _ w).size)))))
