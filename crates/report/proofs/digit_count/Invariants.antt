use Rattle.std.proofs.Common.{◌≡◌, ◌-◌, ◌/◌, ◌^◌, ◌≤◌, ◌⊎◌}
use Rattle.report.proofs.digit_count.Given as goal

-- so many digits are counted, and what is left is the number without them
abbrev pub invariant-loop-rest : goal.invariant-loop-rest
invariant-loop-rest l = record {
  some : 1 ≤ l.count;
  most : l.count ≤ 20;
  left : l.rest ≡ l.v / 10 ^ l.count;
  above : (l.count ≡ 1) ⊎ (10 ^ (l.count - 1) ≤ l.v);
}

abbrev pub decreases-loop-rest : goal.decreases-loop-rest
decreases-loop-rest l = l.rest
