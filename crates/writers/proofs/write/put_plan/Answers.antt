-- `writers::write::put_plan` meets its contract.
use Prim.Native.Nat.{ℕ, ◌≤◌, ◌<◌, ◌+◌, ◌-◌}
use mathlib.Core.Path.{◌≡◌, sym, ap, ◌∙◌}
use mathlib.Core.List.{List}
use native.Mathlib.Nat.{zero-add}
use native.Mathlib.Omega.{arith}
use lib.ListN.{length, get_or, take, drop}
use lib.Seq.{get_or-take}
use Rattle.std.proofs.lemmas.List.{get_or-drop, length-take, length-drop}
use Rattle.forms.specs.Bytes.{bytes}
use Rattle.forms.specs.Form.{plan_lines}
use Rattle.forms.specs.declared.form.Form.TheVariants.{Plan}
use Rattle.lines.specs.Puts.{decimal_value, decimal_line}
use Rattle.lines.proofs.Writing.{then-fits, then-puts}
use Rattle.lengths.specs.Lines.{lines_from, line_at}
use Rattle.lengths.proofs.Runs.{DecimalAt, at-line, all_lines, front_fits, next_fits, next-put}
use Rattle.writers.proofs.Shown.{shown}
use Rattle.writers.proofs.write.put_plan.Goals as goal
use Rattle.writers.proofs.write.put_plan.Goals.{In-loop-amount}

-- in a turn
module _ (c : In-loop-amount) where
  abbrev l : List ℕ
  l = c.args.plan.now

  abbrev numbers : List ℕ
  numbers = c.numbers-list.result.now

  abbrev i : ℕ
  i = c.loop-amount.amount-index

  -- the number that is put
  abbrev v : ℕ
  v = get_or (take (length numbers - length plan_lines) (drop (length plan_lines) numbers)) i 0

  there : i < length numbers - length plan_lines
  there = omega (arith, c.loop-amount-test.true, length-take (length numbers - length plan_lines) (drop (length plan_lines) numbers))

  value : v ≡ get_or l (length plan_lines + i) 0
  value = get_or-take _ _ i 0 there ∙ get_or-drop (length plan_lines) numbers i 0 ∙ ap (λ (k : List ℕ). get_or k (length plan_lines + i) 0) c.numbers-list.ensures.numbers

  less : length plan_lines + i < length l
  less = omega (arith, there, ap length c.numbers-list.ensures.numbers)

  amount : DecimalAt Plan l (length plan_lines + i) (bytes "at=")
  amount = at-line l c.numbers-list.ensures.good (length plan_lines + i) (omega arith) less

  line : line_at Plan l (length plan_lines + i) ≡ decimal_line (bytes "at=") v
  line = shown Plan l _ _ v amount value

  room : 0 + length (lines_from Plan l 0 (length l)) ≤ length c.args.out.now
  room = omega (arith, c.requires, ap length (all_lines Plan l))

  fits : c.loop-amount.p + length (decimal_line (bytes "at=") v) ≤ length c.loop-amount.out
  fits = next_fits Plan l 0 _ room _ _ less (sym (zero-add _)) line c.loop-amount.invariant

pub put_plan_head-p-requires : goal.put_plan_head-p-requires
put_plan_head-p-requires c = front_fits Plan _ _ _ c.requires (omega (arith, c.numbers-list.ensures.good.size))

pub put-from-requires : goal.put-from-requires
put-from-requires c = omega (arith, fits ((goal.at.put-from-requires c).In-loop-amount))

pub put_value-p-requires-clause-v_bound : goal.put_value-p-requires-clause-v_bound
put_value-p-requires-clause-v_bound c = let p = (goal.at.put_value-p-requires-clause-v_bound c).In-loop-amount in omega (arith, (amount p).number.small, value p)

pub put_value-p-requires-clause-v_in_bounds : goal.put_value-p-requires-clause-v_in_bounds
put_value-p-requires-clause-v_in_bounds c =
    let p = (goal.at.put_value-p-requires-clause-v_in_bounds c).In-loop-amount in
    then-fits (decimal_value (v p)) (fits p) c.put-from.ensures

pub loop-amount-preserved : goal.loop-amount-preserved
loop-amount-preserved c =
    let p = (goal.at.loop-amount-preserved c).In-loop-amount in
    next-put Plan _ 0 _ (room p) _ _ (less p) (sym (zero-add _)) (line p) c.loop-amount.invariant _ (omega arith) (then-puts (fits p) c.put-from.ensures c.put_value-p.ensures)

pub returns : goal.returns
returns c =
    let l = c.args.plan.now in
    let k = c.numbers-list.result.now in
    let e : length plan_lines + c.loop-amount.amount-index ≡ length l = omega (
      arith,
      c.loop-amount-test.false,
      c.loop-amount.auto.amount-index-end,
      length-take (length k - length plan_lines) (drop (length plan_lines) k),
      length-drop (length plan_lines) k,
      ap length c.numbers-list.ensures.numbers,
      c.numbers-list.ensures.good.size,
    ) in
    rw (e, all_lines Plan l) at c.loop-amount.invariant
