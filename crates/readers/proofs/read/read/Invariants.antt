-- `readers::read::read` meets its contract.
use Rattle.std.proofs.Common.{◌≡◌, ◌-◌, ◌≤◌, length}
use Rattle.forms.specs.Line.{most_remarks}
use Rattle.forms.specs.Read.{read_lines}
use Rattle.readers.specs.Read.{Begun, onward}
use Rattle.readers.proofs.read.read.Given as goal

abbrev pub invariant-loop-stopped : goal.invariant-loop-stopped
invariant-loop-stopped l = record {
  length-kept : length l.vals ≡ length l.initial.vals;
  begun : Begun l.form l.text l.vals l.count l.at;
  passed : l.remarks ≤ most_remarks;
  rest : read_lines l.form l.text ≡ onward l.form l.text l.vals l.count l.at l.remarks;
}

abbrev pub decreases-loop-stopped : goal.decreases-loop-stopped
decreases-loop-stopped l = length l.text - l.at
