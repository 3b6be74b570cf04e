-- `sharing::divide::fill` meets its contract: the output has the shares of the services passed, and then what it had. Assumes nothing.
use Prim.Native.Nat.{◌-◌}
use mathlib.Core.Path.{◌≡◌}
use mathlib.Core.List.{◌++◌}
use lib.ListN.{length, drop}
use Rattle.model.specs.Listed.{listed}
use Rattle.sharing.specs.Share.{above, share_at}
use Rattle.sharing.proofs.divide.fill.Given as goal

abbrev pub invariant-loop-i : goal.invariant-loop-i
invariant-loop-i l = record {
  size : length l.out ≡ length l.initial.out;
  rest : l.left ≡ l.initial.left - above l.demands l.t l.i;
  done : l.out ≡ listed l.i (share_at l.demands l.t l.initial.left) ++ drop l.i l.initial.out;
}
