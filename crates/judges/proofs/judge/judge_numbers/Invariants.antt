-- `judges::judge::judge_numbers` meets its contract.
use Prim.Native.Nat.{◌≤◌, ◌+◌, ◌-◌}
use mathlib.Core.Path.{◌≡◌}
use lib.ListN.{length, take, drop}
use Rattle.lists.specs.Lists.{most_numbers}
use Rattle.forms.specs.Form.{Sound}
use Rattle.forms.specs.Read.{walk, judge_numbers}
use Rattle.forms.specs.Turns.{itself}
use Rattle.judges.proofs.judge.judge_numbers.Given as goal

abbrev pub invariant-loop-line : goal.invariant-loop-line
invariant-loop-line l = record {
  within : l.i ≤ length l.list;
  few : l.i ≤ most_numbers;
  sound : Sound l.form (take l.i l.list);
  rest : judge_numbers l.form l.list ≡ walk itself l.form (l.i + 1) (take l.i l.list) (drop l.i l.list);
}

abbrev pub decreases-loop-line : goal.decreases-loop-line
decreases-loop-line l = length l.list - l.i
