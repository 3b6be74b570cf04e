-- `lengths::widths` meets its contract.
use Prim.Native.Nat.{◌≤◌, ◌*◌}
use mathlib.Core.Path.{◌≡◌}
use Rattle.lengths.specs.Lines.{widths_of}
use Rattle.lengths.proofs.widths.Given as goal

abbrev pub invariant-loop-v : goal.invariant-loop-v
invariant-loop-v l = record { sum-is : l.sum ≡ widths_of l.numbers l.v-index; small : l.sum ≤ 10 * l.v-index }
