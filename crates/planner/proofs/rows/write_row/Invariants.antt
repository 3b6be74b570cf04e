-- `planner::rows::write_row` meets its contract: the row has the numbers of the tunnels passed, and then what it had.
use mathlib.Core.Path.{◌≡◌}
use mathlib.Core.List.{◌++◌}
use lib.ListN.{drop}
use Rattle.model.specs.Even.{even_row}
use Rattle.model.specs.Listed.{listed}
use Rattle.lists.specs.Lists.{network_of}
use Rattle.planner.proofs.rows.write_row.Given as goal

abbrev pub invariant-loop-t : goal.invariant-loop-t
invariant-loop-t l = l.row ≡ listed l.t (even_row (network_of l.network) l.q l.a) ++ drop l.t l.initial.row
