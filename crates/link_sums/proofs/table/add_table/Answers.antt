-- `link_sums::table::add_table` meets its contract: the links passed are joined, the others are as they were.
use Rattle.link_sums.specs.Tables.{Part}
use Rattle.link_sums.proofs.Tables.{join-room}
use Rattle.link_sums.proofs.table.add_table.Goals as goal
use Rattle.link_sums.proofs.table.add_table.Goals.{In-loop-link}

pub plus-requires-clause-old : goal.plus-requires-clause-old
plus-requires-clause-old c = join-room _ _ _ _ c.loop-link.invariant c.requires.1 c.requires.0 c.loop-link-test.true Part.old

pub plus-requires-clause-new : goal.plus-requires-clause-new
plus-requires-clause-new c = join-room _ _ _ _ c.loop-link.invariant c.requires.1 c.requires.0 c.loop-link-test.true Part.new

pub plus-requires-clause-peak : goal.plus-requires-clause-peak
plus-requires-clause-peak c = join-room _ _ _ _ c.loop-link.invariant c.requires.1 c.requires.0 c.loop-link-test.true Part.peak
