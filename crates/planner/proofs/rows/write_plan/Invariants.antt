-- `planner::rows::write_plan` meets its contract: the output has the list's head and the rows written, and then what it had.
use Prim.Native.Nat.{◌+◌, ◌-◌, ◌*◌}
use mathlib.Core.Path.{◌≡◌}
use Rattle.lists.specs.Lists.{network_of}
use Rattle.planner.proofs.EvenLists.{Written}
use Rattle.planner.proofs.rows.write_plan.Given as goal

abbrev pub invariant-loop-a : goal.invariant-loop-a
invariant-loop-a l = record {
  place : l.at ≡ 4 + (l.a - 1) * (network_of l.network).tunnels;
  written : Written (network_of l.network) l.q l.initial.out (l.a - 1) l.out;
}
