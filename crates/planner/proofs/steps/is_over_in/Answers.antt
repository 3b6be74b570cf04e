-- `planner::steps::is_over_in` meets its contract: by the sums of the link, in one window.
use Prim.Native.Nat.{ℕ}
use mathlib.Core.Path.{ap, ◌∙◌}
use mathlib.Core.List.{List}
use native.Mathlib.Omega.{arith}
use Rattle.model.specs.Limits.{most_steps}
use Rattle.lists.specs.Lists.{network_sizes, network_of}
use Rattle.planner.specs.Search.{is_over}
use Rattle.planner.proofs.Figures.{step_room}
use Rattle.planner.proofs.Searching.{over-same}
use Rattle.planner.proofs.steps.is_over_in.Goals as goal

pub is_over-requires : goal.is_over-requires
is_over-requires c = (omega arith, omega (arith, c.requires.1, ap (λ (l : List ℕ). (network_sizes l).links) c.network-network.ensures.value), omega (arith, c.step_load-worst_of_all.ensures, step_room c.all.result c.all.ensures.most c.args.lag c.args.row c.requires.0))

pub returns : goal.returns
returns c =
    c.is_over.ensures
    ∙ ap (λ (l : List ℕ). is_over (network_of l) most_steps c.args.link c.step_load-worst.result c.step_load-worst_of_all.result) c.network-network.ensures.value
    ∙ over-same _ _ _ _ _ _ _ _ c.requires.0 c.protected.ensures.value c.all.ensures.value c.step_load-worst.ensures c.step_load-worst_of_all.ensures
