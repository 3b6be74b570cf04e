-- `planner::steps::is_short` meets its contract: by the sums of the link, in the first window and in the last.
use Prim.Native.Nat.{ℕ}
use mathlib.Core.Path.{ap, ◌∙◌}
use mathlib.Core.List.{List}
use native.Mathlib.Omega.{arith}
use Rattle.lists.specs.Lists.{network_sizes, network_of}
use Rattle.planner.specs.Search.{is_over}
use Rattle.planner.proofs.Figures.{end-room}
use Rattle.planner.proofs.Searching.{short-same}
use Rattle.planner.proofs.steps.is_short.Goals as goal

pub is_over-requires : goal.is_over-requires
is_over-requires c = (c.requires.0, omega (arith, c.requires.1, ap (λ (l : List ℕ). (network_sizes l).links) c.network-network.ensures.value), omega (arith, c.end_load-worst_of_all.ensures, end-room c.all.result c.all.ensures.most c.min-more.result c.args.q (omega (arith, c.min-more.ensures)) c.requires.0))

pub returns : goal.returns
returns c =
    c.is_over.ensures
    ∙ ap (λ (l : List ℕ). is_over (network_of l) c.args.q c.args.link c.end_load-worst.result c.end_load-worst_of_all.result) c.network-network.ensures.value
    ∙ short-same c.args.lag _ _ _ _ _ _ _ _ c.min-more.ensures c.protected.ensures.value c.all.ensures.value c.end_load-worst.ensures c.end_load-worst_of_all.ensures
