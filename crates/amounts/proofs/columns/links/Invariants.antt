-- `amounts::columns::links` meets its contract.
use mathlib.Core.Path.{◌≡◌}
use lib.ListN.{length}
use Rattle.lists.specs.Lists.{network_of}
use Rattle.amounts.specs.Columns.{Holds, capacity, raised}
use Rattle.amounts.proofs.columns.links.Given as goal

abbrev pub invariant-loop-l : goal.invariant-loop-l
invariant-loop-l l = record {
  size : (length l.capacities ≡ length l.initial.capacities) × (length l.all ≡ length l.initial.all);
  capacity : Holds l.capacities l.l (capacity (network_of l.network) l.parts);
  all : Holds l.all l.l (raised (network_of l.network) l.parts);
}
