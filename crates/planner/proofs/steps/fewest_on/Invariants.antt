-- `planner::steps::fewest_on` meets its contract: the plans of the steps passed break a bound on the link.
use Prim.Native.Nat.{ℕ, ◌≤◌, ◌<◌}
use mathlib.Core.Path.{◌≡◌}
use mathlib.Core.Bool.{true}
use Rattle.lists.specs.Lists.{network_of}
use Rattle.planner.specs.Search.{is_short}
use Rattle.planner.proofs.steps.fewest_on.Given as goal

abbrev pub invariant-loop-q : goal.invariant-loop-q
invariant-loop-q l = (i : ℕ) → l.least ≤ i → i < l.q → is_short l.lag (network_of l.sums) i l.link ≡ true
