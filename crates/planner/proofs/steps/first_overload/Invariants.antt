-- `planner::steps::first_overload` meets its contract.
use mathlib.Core.Path.{◌≡◌}
use Rattle.lists.specs.Lists.{network_of}
use Rattle.planner.proofs.Searching.{steps_kept, links_kept}
use Rattle.planner.proofs.steps.first_overload.Given as goal

abbrev pub invariant-loop-link : goal.invariant-loop-link
invariant-loop-link l = record {
  none : (l.place ≡ 0) × (l.second ≡ 0);
  kept : links_kept l.lag (network_of l.sums) l.row l.link;
}

abbrev pub invariant-steps : goal.invariant-steps
invariant-steps l = record {
  none : (l.place ≡ 0) × (l.second ≡ 0);
  kept : steps_kept l.lag (network_of l.sums) l.row;
}
