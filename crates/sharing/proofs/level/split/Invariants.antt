-- `sharing::level::split` meets its contract: the demands passed are added up or counted. Assumes nothing.
use Prim.Native.Nat.{◌*◌, ◌≤◌}
use mathlib.Core.Path.{◌≡◌}
use Rattle.model.specs.Limits.{most_amount}
use Rattle.sharing.specs.Share as share
use Rattle.sharing.specs.Inner.{met_by}
use Rattle.sharing.proofs.level.split.Given as goal

abbrev pub invariant-loop-demand : goal.invariant-loop-demand
invariant-loop-demand l = record {
  met : l.sum ≡ met_by l.demands l.level l.demand-index;
  over : l.above ≡ share.above l.demands l.level l.demand-index;
  small : l.sum ≤ l.demand-index * most_amount;
  few : l.above ≤ l.demand-index;
}
