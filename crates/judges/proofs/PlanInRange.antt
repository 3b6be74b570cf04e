-- Laws of the loop over the amounts of a plan's list, and that a list with its parts in their ranges is whole.
use mathlib.Core.Path.{◌≡◌}
use mathlib.Core.List.{List}
use Prim.Native.Nat.{ℕ, ◌+◌, ◌*◌, ◌≤◌}
use native.Mathlib.Omega.{arith}
use lib.ListN.{length}
use Rattle.model.specs.Limits.{most_tunnels, most_steps, most_amount}
use Rattle.lists.specs.Lists.{at, plan_sizes, row_at, plan_size}
use Rattle.forms.specs.Form.{Whole, plan_lines}
use Rattle.judges.specs.Ranges.{HeadIn, AmountsIn}
use Rattle.forms.specs.declared.form.Form.TheVariants.{Plan}
use Rattle.forms.proofs.Forms.{between, plan-head-at, PlanHead}
use Rattle.forms.proofs.Good.{plan-ranges, whole-plan}
use Rattle.judges.proofs.InRange.{one_more}

module _ (l : List ℕ) (high : ℕ) where
  pub amounts-none : (n : ℕ) → n ≤ length plan_lines → AmountsIn l high n
  amounts-none n few = record { amount = λ i h k. absurd (omega arith) }

  pub amounts-more : (n : ℕ) → AmountsIn l high n → at l n ≤ high → AmountsIn l high (n + 1)
  amounts-more n h a = record { amount = λ i k less. one_more (λ j. row_at (plan_sizes l) 1 ≤ j → at l j ≤ high) n (λ j g f. h.amount j f g) (λ f. a) i less k }

  -- and what holds of those before a position holds of those before the end
  pub amounts-all : (n : ℕ) → AmountsIn l high n → length l ≤ n → AmountsIn l high (length l)
  amounts-all n a h = record { amount = λ i k less. a.amount i k (omega arith) }

pub record RowsIn (l : List ℕ) : Type 0 where
  pub head : HeadIn Plan l (length plan_lines)
  pub size : length l ≡ plan_size (plan_sizes l)
  pub amounts : AmountsIn l (most_amount * (plan_sizes l).parts) (length l)

-- what the lines of a head say of the counts
pub plan-counts : (l : List ℕ) → HeadIn Plan l (length plan_lines) → PlanHead l
plan-counts l h =
    record {
      parts = between 1 most_steps (at l 1) (h.each 1 (omega arith));
      steps = between 1 most_steps (at l 2) (h.each 2 (omega arith));
      tunnels = (between 0 most_tunnels (at l 3) (h.each 3 (omega arith))).1;
    }

pub rows_whole : (l : List ℕ) → RowsIn l → Whole Plan l
rows_whole l r =
    let c = plan-counts l r.head in
    whole-plan l (record {
      size = r.size;
      edition = let p = between 1 1 (at l 0) (r.head.each 0 (omega arith)) in omega arith;
      parts = c.parts;
      steps = c.steps;
      tunnels = c.tunnels;
      amounts = r.amounts.amount;
    })

pub whole-rows : (l : List ℕ) → Whole Plan l → RowsIn l
whole-rows l w =
    let g = plan-ranges l w in
    record { head = record { each = λ i h. plan-head-at l w.sound i (omega (arith, g.size)) h }; size = g.size; amounts = record { amount = g.amounts } }
