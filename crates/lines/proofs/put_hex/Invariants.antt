-- `lines::put_hex` meets its contract.
use Prim.Native.Nat.{◌+◌, ◌-◌, ◌/◌, ◌^◌}
use mathlib.Core.Path.{◌≡◌}
use Rattle.forms.specs.Write.{digits_in}
use Rattle.lines.specs.Puts.{placed}
use Rattle.lines.proofs.put_hex.Given as goal

abbrev pub invariant-loop-i : goal.invariant-loop-i
invariant-loop-i l = record {
  left : l.left ≡ l.v / 16 ^ (16 - l.i);
  written : l.out ≡ placed l.initial.out (l.at + l.i) (digits_in 16 (16 - l.i) l.v);
}
