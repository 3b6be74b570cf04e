-- `amounts::columns::Bounds::of_all` meets its contract.
use Rattle.lists.specs.Lists.{network_of, plan_of}
use Rattle.amounts.specs.Columns.{AllBounds}
use Rattle.amounts.proofs.columns.Bounds.of_all.Given as goal

abbrev pub invariant-loop-l : goal.invariant-loop-l
invariant-loop-l l = AllBounds (network_of l.pair.network) (plan_of l.pair.plan).parts l.l l.bounds
