-- `judges::ranges::network_head_in` meets its contract.
use Prim.Native.Nat.{ℕ, ◌≤◌}
use mathlib.Core.Path.{◌≡◌, sym, ◌∙◌}
use mathlib.Core.Bool.{true, false}
use mathlib.Core.List.{List}
use lib.ListN.{length}
use borrow.Author.Tests.{le-leb, lt-leb}
use Rattle.lists.specs.Lists.{at, has_held}
use Rattle.lists.proofs.Positions.{head-low, with-unit, without-unit}
use Rattle.forms.specs.Form.{network_lines}
use Rattle.forms.proofs.Forms.{lines-in-head}
use Rattle.judges.specs.Ranges.{NetworkHead}
use Rattle.judges.proofs.InRange.{decides-no, decides-same, same_lines}
use native.Mathlib.Omega.{arith}
use Rattle.judges.proofs.ranges.network_head_in.Goals as goal
use Rattle.judges.proofs.ranges.network_head_in.Goals.{Else-list-lt-HELD_SINCE, Then-list-lt-HELD_SINCE}

-- how many lines the head has
six : (l : List ℕ) → 6 ≤ length (network_lines (at l 0))
six l = omega (arith, lines-in-head (at l 0), head-low (at l 0))

early : (c : Then-list-lt-HELD_SINCE) → has_held (at c.args.list.now 0) ≡ false
early c = lt-leb 3 (at c.args.list.now 0) c.if-list-lt-HELD_SINCE.true

exactly-six : (c : Then-list-lt-HELD_SINCE) → length (network_lines (at c.args.list.now 0)) ≡ 6
exactly-six c = let e = at c.args.list.now 0 in sym (lines-in-head e) ∙ without-unit e (early c)

late : (c : Else-list-lt-HELD_SINCE) → has_held (at c.args.list.now 0) ≡ true
late c = le-leb 3 (at c.args.list.now 0) c.if-list-lt-HELD_SINCE.false

exactly-seven : (c : Else-list-lt-HELD_SINCE) → length (network_lines (at c.args.list.now 0)) ≡ 7
exactly-seven c = let e = at c.args.list.now 0 in sym (lines-in-head e) ∙ with-unit e (late c)

pub returns-then-list : goal.returns-then-list
returns-then-list c = decides-no (λ (w : NetworkHead c.args.list.now). absurd (omega (arith, w.long, six c.args.list.now, c.if-list.true)))

pub head_in-requires : goal.head_in-requires
head_in-requires c = (c.if-list.false, same_lines 0 (at c.args.list.now 0) (sym (early c)))

pub returns-then-list-lt-HELD_SINCE : goal.returns-then-list-lt-HELD_SINCE
returns-then-list-lt-HELD_SINCE c = let e = exactly-six ((goal.at.returns-then-list-lt-HELD_SINCE c).Then-list-lt-HELD_SINCE) in
    decides-same _ (λ h. record { long = omega (arith, e, c.if-list.false); head = rw e h }) (λ w. rw e at w.head) c.head_in.ensures

pub returns-then-list-lt-HEAD : goal.returns-then-list-lt-HEAD
returns-then-list-lt-HEAD c = decides-no (λ (w : NetworkHead c.args.list.now). absurd (omega (arith, w.long, exactly-seven ((goal.at.returns-then-list-lt-HEAD c).Else-list-lt-HELD_SINCE), c.if-list-lt-HEAD.true)))

pub head_in-requires-2 : goal.head_in-requires-2
head_in-requires-2 c = (c.if-list-lt-HEAD.false, same_lines 3 (at c.args.list.now 0) (sym (late ((goal.at.head_in-requires-2 c).Else-list-lt-HELD_SINCE))))

pub returns : goal.returns
returns c = let e = exactly-seven ((goal.at.returns c).Else-list-lt-HELD_SINCE) in
    decides-same _ (λ h. record { long = omega (arith, e, c.if-list-lt-HEAD.false); head = rw e h }) (λ w. rw e at w.head) c.head_in-2.ensures
