-- `overloads::steps::first_overload` meets its contract. The invariants: no step before this one, and no link before this one in it, breaks a bound.
use mathlib.Core.Path.{◌≡◌}
use mathlib.Core.Option.{none}
use Rattle.std.specs.Prelude.{None}
use Rattle.model.specs.Search.{first}
use Rattle.model.specs.Scan.{test_link}
use Rattle.model.specs.Rule.{worst_over}
use Rattle.model.proofs.Scans.{test_step}
use Rattle.lists.specs.Lists.{network_of, plan_of}
use Rattle.overloads.specs.Blocks.{InBlock}
use Rattle.overloads.proofs.steps.first_overload.Given as goal

abbrev pub invariant-loop-l : goal.invariant-loop-l
invariant-loop-l l = record {
  nothing : l.found ≡ None;
  passed : first l.l (test_link (worst_over l.lag (network_of l.pair.network) (plan_of l.pair.plan)) l.i) ≡ none;
}

abbrev pub invariant-steps : goal.invariant-steps
invariant-steps l = record {
  nothing : l.found ≡ None;
  block : InBlock l.lag (network_of l.pair.network) (plan_of l.pair.plan) l.i l.k l.loads;
  passed : first l.i (test_step (network_of l.pair.network).links (worst_over l.lag (network_of l.pair.network) (plan_of l.pair.plan))) ≡ none;
}
