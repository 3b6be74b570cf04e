-- `fields::put_digits` meets its contract.
use Prim.Native.Nat.{◌+◌, ◌-◌, ◌/◌, ◌^◌}
use mathlib.Core.Path.{◌≡◌}
use Rattle.forms.specs.Write.{digits_in}
use Rattle.lines.specs.Puts.{placed}
use Rattle.fields.proofs.put_digits.Given as goal

abbrev pub invariant-loop-i : goal.invariant-loop-i
invariant-loop-i l = record {
  left : l.left ≡ l.v / 10 ^ (l.n - l.i);
  written : l.out ≡ placed l.initial.out (l.from + l.i) (digits_in 10 (l.n - l.i) l.v);
}
