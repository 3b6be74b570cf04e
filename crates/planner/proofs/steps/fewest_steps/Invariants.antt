-- `planner::steps::fewest_steps` meets its contract: no even plan of fewer steps is accepted, and this one keeps both bounds on the links passed.
use Prim.Native.Nat.{◌≤◌}
use Rattle.model.specs.Limits.{most_steps}
use Rattle.lists.specs.Lists.{network_of}
use Rattle.planner.proofs.Searching.{NoneFewer, Kept}
use Rattle.planner.proofs.steps.fewest_steps.Given as goal

abbrev pub invariant-loop-link : goal.invariant-loop-link
invariant-loop-link l = record {
  most : l.q ≤ most_steps;
  fewer : NoneFewer l.lag (network_of l.sums) l.q;
  kept : Kept l.lag (network_of l.sums) l.q l.link;
}
