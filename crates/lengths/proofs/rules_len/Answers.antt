-- `lengths::rules_len` meets its contract.
use Prim.Native.Nat.{ℕ, ◌≤◌, ◌<◌, ◌+◌}
use mathlib.Core.Path.{◌≡◌, sym, ap, ◌∙◌}
use native.Mathlib.Nat.{le_of_lt}
use native.Mathlib.Omega.{arith}
use lib.ListN.{length, get_or}
use lib.Seq.{length-take-le}
use Rattle.lists.specs.Lists.{most_numbers}
use Rattle.forms.specs.Write.{line_of}
use Rattle.forms.specs.declared.form.Form.TheVariants.{Rules}
use Rattle.forms.proofs.Forms.{sound-take}
use Rattle.forms.proofs.Rendering.{at_most, line-short}
use Rattle.lengths.specs.Lines.{lines_from}
use Rattle.lengths.proofs.Runs.{lines_none, all_lines, writable, length_more}
use borrow.Author.Rules.{rules}
use Rattle.lengths.proofs.rules_len.Goals as goal
use Rattle.lengths.proofs.rules_len.Goals.{After-rules_field-line}

-- in a turn
module _ (c : After-rules_field-line) where
  few : c.loop-i.i < most_numbers
  few = at_most _ _ _ c.loop-i-test.true c.requires.sound

  abbrev line : ℕ
  line = length (line_of c.rules_field-line.result (get_or c.args.list.now c.loop-i.i 0))

  short : line ≤ 27
  short = line-short c.rules_field-line.result _

  more : length (lines_from Rules c.args.list.now 0 (c.loop-i.i + 1)) ≡ length (lines_from Rules c.args.list.now 0 c.loop-i.i) + line
  more = length_more _ _ _ c.loop-i-test.true c.requires.sound _ c.rules_field-line.ensures

pub loop-i-init : goal.loop-i-init
loop-i-init c = record { few = search rules; sum-is = sym (ap length (lines_none _ _ 0)); small = search rules }

pub slice_bounds-rules_field-end : goal.slice_bounds-rules_field-end
slice_bounds-rules_field-end c = sym (length-take-le _ _ (le_of_lt c.loop-i-test.true))

pub rules_field-line-requires : goal.rules_field-line-requires
rules_field-line-requires c = sound-take Rules _ _ (le_of_lt c.loop-i-test.true) c.requires.sound

pub offset_bounds-list-i : goal.offset_bounds-list-i
offset_bounds-list-i c = omega (arith, few c)

pub bounds-list-i : goal.bounds-list-i
bounds-list-i c = c.loop-i-test.true

pub line_len-sum-requires : goal.line_len-sum-requires
line_len-sum-requires c = writable _ _ _ c.loop-i-test.true c.requires.sound _ c.rules_field-line.ensures

pub overflow_add-sum : goal.overflow_add-sum
overflow_add-sum c = omega (arith, few ((goal.at.overflow_add-sum c).After-rules_field-line), c.loop-i.invariant.small, c.line_len-sum.ensures, short ((goal.at.overflow_add-sum c).After-rules_field-line))

pub loop-i-preserved : goal.loop-i-preserved
loop-i-preserved c =
    let v = c.loop-i.invariant in
    record {
      few = omega (arith, c.loop-i-test.true);
      sum-is = omega (arith, v.sum-is, c.line_len-sum.ensures, more ((goal.at.loop-i-preserved c).After-rules_field-line));
      small = omega (arith, v.small, c.line_len-sum.ensures, short ((goal.at.loop-i-preserved c).After-rules_field-line));
    }

pub returns : goal.returns
returns c =
    let e : c.loop-i.i ≡ length c.args.list.now = omega (arith, c.loop-i.invariant.few, c.loop-i-test.false) in
    c.loop-i.invariant.sum-is ∙ ap (λ (n : ℕ). length (lines_from Rules c.args.list.now 0 n)) e ∙ ap length (all_lines Rules c.args.list.now)
