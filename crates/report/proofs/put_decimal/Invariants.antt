use Rattle.std.proofs.Common.{◌≡◌, ◌+◌, ◌-◌, ◌/◌, ◌^◌}
use Rattle.forms.specs.Write.{digits_in}
use Rattle.lines.specs.Puts.{placed}
use Rattle.report.proofs.put_decimal.Given as goal

-- the last count - i digits are put
abbrev pub invariant-loop-i : goal.invariant-loop-i
invariant-loop-i l = record {
  left : l.rest ≡ l.v / 10 ^ (l.count - l.i);
  written : l.out ≡ placed l.initial.out (l.at + l.i) (digits_in 10 (l.count - l.i) l.v);
}
