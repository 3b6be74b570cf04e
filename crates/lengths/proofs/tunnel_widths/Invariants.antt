-- `lengths::tunnel_widths` meets its contract.
use Prim.Native.Nat.{◌≤◌, ◌*◌}
use mathlib.Core.Path.{◌≡◌}
use Rattle.lengths.specs.Lines.{tunnel_widths}
use Rattle.lengths.proofs.tunnel_widths.Given as goal

abbrev pub invariant-loop-t : goal.invariant-loop-t
invariant-loop-t l = record { sum-is : l.sum ≡ tunnel_widths l.network l.t; small : l.sum ≤ 30 * l.t }
