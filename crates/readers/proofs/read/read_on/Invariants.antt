-- `readers::read::read_on` meets its contract.
use Rattle.std.proofs.Common.{◌≡◌, ℕ, ◌+◌, ◌-◌, ◌≤◌, length, take}
use Rattle.readers.specs.Read.{Fits, Begun, onward}
use Rattle.readers.proofs.read.read_on.Given as goal

abbrev pub invariant-loop-v : goal.invariant-loop-v
invariant-loop-v l = record {
  length-kept : length l.vals ≡ length l.initial.vals;
  begun : Begun l.form l.text l.vals l.i l.at;
  fits : Fits l.form l.body (take l.i l.vals);
  more : l.count ≤ l.i;
  kept : take l.count l.vals ≡ take l.count l.initial.vals;
  later : l.i + l.from ≤ l.at + l.count;
  same : (remarks : ℕ) → onward l.form l.text l.initial.vals l.count l.from remarks ≡ onward l.form l.text l.vals l.i l.at remarks;
}

abbrev pub decreases-loop-v : goal.decreases-loop-v
decreases-loop-v l = length l.text - l.at
