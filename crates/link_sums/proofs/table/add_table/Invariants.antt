-- `link_sums::table::add_table` meets its contract: the links passed are joined, the others are as they were.
use Rattle.link_sums.proofs.Tables.{Joining}
use Rattle.link_sums.proofs.table.add_table.Given as goal

abbrev pub invariant-loop-link : goal.invariant-loop-link
invariant-loop-link l = Joining l.link l.initial.table l.more l.table
