-- `writers::write::put_network_head` meets its contract.
use Prim.Native.Nat.{ℕ, ◌+◌, ◌≤◌}
use mathlib.Core.Path.{◌≡◌, ap}
use mathlib.Core.List.{List}
use native.Mathlib.Omega.{arith}
use lib.ListN.{length, get_or}
use borrow.Author.Tests.{le-leb, lt-leb}
use mathlib.Core.Bool.{true}
use Rattle.lists.specs.Lists.{has_held, head_size}
use Rattle.lists.proofs.Positions.{head-low, with-unit, without-unit}
use Rattle.forms.specs.declared.form.Form.TheVariants.{Network}
use Rattle.lengths.specs.Lines.{lines_from}
use Rattle.forms.specs.Bytes.{bytes}
use Rattle.lengths.proofs.Runs.{DecimalAt, net-line, scratch-line, overrun-line, unit-line, head-in, no_lines, run_fits, run-put}
use Rattle.writers.proofs.Shown.{head-fits, head-next}
use Rattle.writers.proofs.write.put_network_head.Goals as goal
use Rattle.writers.proofs.write.put_network_head.Goals.{After-numbers-list, Then-list-lt-HELD_SINCE, Else-list-lt-HELD_SINCE}

module _ (c : After-numbers-list) where
  abbrev l : List ℕ
  l = c.args.network.now

  some : 6 ≤ head_size (get_or l 0 0)
  some = head-low (get_or l 0 0)

  long-list : head_size (get_or l 0 0) ≤ length c.numbers-list.result.now
  long-list = omega (arith, head-in l c.numbers-list.ensures.good.ranges.sized.size, ap length c.numbers-list.ensures.numbers)

  room : 0 + length (lines_from Network l 0 (head_size (get_or l 0 0))) ≤ length c.args.out.now
  room = omega (arith, c.requires.room)

-- the edition, by the test
early : (c : Then-list-lt-HELD_SINCE) → head_size (get_or c.args.network.now 0 0) ≡ 6
early c = without-unit _ (lt-leb 3 _ (omega (arith, c.if-list-lt-HELD_SINCE.true, ap (λ (k : List ℕ). get_or k 0 0) c.numbers-list.ensures.numbers)))

module _ (c : Else-list-lt-HELD_SINCE) where
  held : has_held (get_or c.args.network.now 0 0) ≡ true
  held = le-leb 3 _ (omega (arith, c.if-list-lt-HELD_SINCE.false, ap (λ (k : List ℕ). get_or k 0 0) c.numbers-list.ensures.numbers))

  late : head_size (get_or c.args.network.now 0 0) ≡ 7
  late = with-unit _ held

  unit : DecimalAt Network c.args.network.now 3 (bytes "unit=")
  unit = unit-line _ c.numbers-list.ensures.good c.requires.whole held

pub put_line-scratch-requires-clause-v_in_bounds : goal.put_line-scratch-requires-clause-v_in_bounds
put_line-scratch-requires-clause-v_in_bounds c =
    let some = head-low (get_or c.args.network.now 0 0) in
    head-fits Network _ _ c.requires.room c.numbers-list.ensures.numbers 0 (omega (arith, some)) (net-line _ c.numbers-list.ensures.good) (no_lines Network _ _ _ _)

pub put_line-overrun-requires-clause-v_in_bounds : goal.put_line-overrun-requires-clause-v_in_bounds
put_line-overrun-requires-clause-v_in_bounds c =
    let some = head-low (get_or c.args.network.now 0 0) in
    let one = head-next Network _ _ c.requires.room c.numbers-list.ensures.numbers 0 (omega (arith, some)) (net-line _ c.numbers-list.ensures.good) (no_lines Network _ _ _ _) c.put_line-scratch.ensures in
    head-fits Network _ _ c.requires.room c.numbers-list.ensures.numbers 1 (omega (arith, some)) (scratch-line _ c.numbers-list.ensures.good) one

pub put_line-unit-requires-clause-v_in_bounds : goal.put_line-unit-requires-clause-v_in_bounds
put_line-unit-requires-clause-v_in_bounds c =
    let some = head-low (get_or c.args.network.now 0 0) in
    let one = head-next Network _ _ c.requires.room c.numbers-list.ensures.numbers 0 (omega (arith, some)) (net-line _ c.numbers-list.ensures.good) (no_lines Network _ _ _ _) c.put_line-scratch.ensures in
    let two = head-next Network _ _ c.requires.room c.numbers-list.ensures.numbers 1 (omega (arith, some)) (scratch-line _ c.numbers-list.ensures.good) one c.put_line-overrun.ensures in
    head-fits Network _ _ c.requires.room c.numbers-list.ensures.numbers 2 (omega (arith, some)) (overrun-line _ c.numbers-list.ensures.good) two

pub bounds-list-2 : goal.bounds-list-2
bounds-list-2 c =
    let p = (goal.at.bounds-list-2 c).After-numbers-list in
    omega (arith, long-list p, some p)

pub put_counts-requires : goal.put_counts-requires
put_counts-requires c =
    let p = goal.at.put_counts-requires c in
    let e = early p.Then-list-lt-HELD_SINCE in
    let some = head-low (get_or c.args.network.now 0 0) in
    let one = head-next Network _ _ c.requires.room c.numbers-list.ensures.numbers 0 (omega (arith, some)) (net-line _ c.numbers-list.ensures.good) (no_lines Network _ _ _ _) c.put_line-scratch.ensures in
    let two = head-next Network _ _ c.requires.room c.numbers-list.ensures.numbers 1 (omega (arith, some)) (scratch-line _ c.numbers-list.ensures.good) one c.put_line-overrun.ensures in
    let three = head-next Network _ _ c.requires.room c.numbers-list.ensures.numbers 2 (omega (arith, some)) (overrun-line _ c.numbers-list.ensures.good) two c.put_line-unit.ensures in
    run_fits Network _ 0 _ (room p.After-numbers-list) 3 3 _ (omega (arith, e)) (omega (arith, e)) three

pub returns-then-list-lt-HELD_SINCE : goal.returns-then-list-lt-HELD_SINCE
returns-then-list-lt-HELD_SINCE c =
    let p = goal.at.returns-then-list-lt-HELD_SINCE c in
    let e = early p.Then-list-lt-HELD_SINCE in
    let some = head-low (get_or c.args.network.now 0 0) in
    let one = head-next Network _ _ c.requires.room c.numbers-list.ensures.numbers 0 (omega (arith, some)) (net-line _ c.numbers-list.ensures.good) (no_lines Network _ _ _ _) c.put_line-scratch.ensures in
    let two = head-next Network _ _ c.requires.room c.numbers-list.ensures.numbers 1 (omega (arith, some)) (scratch-line _ c.numbers-list.ensures.good) one c.put_line-overrun.ensures in
    let three = head-next Network _ _ c.requires.room c.numbers-list.ensures.numbers 2 (omega (arith, some)) (overrun-line _ c.numbers-list.ensures.good) two c.put_line-unit.ensures in
    run-put Network _ 0 _ (room p.After-numbers-list) 3 3 _ (omega (arith, e)) (omega (arith, e)) three _ (omega (arith, e)) c.put_counts.ensures

pub bounds-list-3 : goal.bounds-list-3
bounds-list-3 c =
    let p = goal.at.bounds-list-3 c in
    omega (arith, long-list p.After-numbers-list, late p.Else-list-lt-HELD_SINCE)

pub put_line-links-requires-clause-v_bound : goal.put_line-links-requires-clause-v_bound
put_line-links-requires-clause-v_bound c =
    let p = goal.at.put_line-links-requires-clause-v_bound c in
    let u = unit p.Else-list-lt-HELD_SINCE in
    rw c.numbers-list.ensures.numbers u.number.small

pub put_line-links-requires-clause-v_in_bounds : goal.put_line-links-requires-clause-v_in_bounds
put_line-links-requires-clause-v_in_bounds c =
    let p = goal.at.put_line-links-requires-clause-v_in_bounds c in
    let u = unit p.Else-list-lt-HELD_SINCE in
    let e = late p.Else-list-lt-HELD_SINCE in
    let some = head-low (get_or c.args.network.now 0 0) in
    let one = head-next Network _ _ c.requires.room c.numbers-list.ensures.numbers 0 (omega (arith, some)) (net-line _ c.numbers-list.ensures.good) (no_lines Network _ _ _ _) c.put_line-scratch.ensures in
    let two = head-next Network _ _ c.requires.room c.numbers-list.ensures.numbers 1 (omega (arith, some)) (scratch-line _ c.numbers-list.ensures.good) one c.put_line-overrun.ensures in
    let three = head-next Network _ _ c.requires.room c.numbers-list.ensures.numbers 2 (omega (arith, some)) (overrun-line _ c.numbers-list.ensures.good) two c.put_line-unit.ensures in
    head-fits Network _ _ c.requires.room c.numbers-list.ensures.numbers 3 (omega (arith, e)) u three

pub put_counts-requires-2 : goal.put_counts-requires-2
put_counts-requires-2 c =
    let p = goal.at.put_counts-requires-2 c in
    let u = unit p.Else-list-lt-HELD_SINCE in
    let e = late p.Else-list-lt-HELD_SINCE in
    let some = head-low (get_or c.args.network.now 0 0) in
    let one = head-next Network _ _ c.requires.room c.numbers-list.ensures.numbers 0 (omega (arith, some)) (net-line _ c.numbers-list.ensures.good) (no_lines Network _ _ _ _) c.put_line-scratch.ensures in
    let two = head-next Network _ _ c.requires.room c.numbers-list.ensures.numbers 1 (omega (arith, some)) (scratch-line _ c.numbers-list.ensures.good) one c.put_line-overrun.ensures in
    let three = head-next Network _ _ c.requires.room c.numbers-list.ensures.numbers 2 (omega (arith, some)) (overrun-line _ c.numbers-list.ensures.good) two c.put_line-unit.ensures in
    let four = head-next Network _ _ c.requires.room c.numbers-list.ensures.numbers 3 (omega (arith, e)) u three c.put_line-links.ensures in
    run_fits Network _ 0 _ (room p.After-numbers-list) 4 3 _ (omega (arith, e)) (omega (arith, e)) four

pub returns : goal.returns
returns c =
    let p = goal.at.returns c in
    let u = unit p.Else-list-lt-HELD_SINCE in
    let e = late p.Else-list-lt-HELD_SINCE in
    let some = head-low (get_or c.args.network.now 0 0) in
    let one = head-next Network _ _ c.requires.room c.numbers-list.ensures.numbers 0 (omega (arith, some)) (net-line _ c.numbers-list.ensures.good) (no_lines Network _ _ _ _) c.put_line-scratch.ensures in
    let two = head-next Network _ _ c.requires.room c.numbers-list.ensures.numbers 1 (omega (arith, some)) (scratch-line _ c.numbers-list.ensures.good) one c.put_line-overrun.ensures in
    let three = head-next Network _ _ c.requires.room c.numbers-list.ensures.numbers 2 (omega (arith, some)) (overrun-line _ c.numbers-list.ensures.good) two c.put_line-unit.ensures in
    let four = head-next Network _ _ c.requires.room c.numbers-list.ensures.numbers 3 (omega (arith, e)) u three c.put_line-links.ensures in
    run-put Network _ 0 _ (room p.After-numbers-list) 4 3 _ (omega (arith, e)) (omega (arith, e)) four _ (omega (arith, e)) c.put_counts-2.ensures
