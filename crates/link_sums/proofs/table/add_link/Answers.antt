-- `link_sums::table::add_link` meets its contract: one store, which leaves the sums of the other links.
use mathlib.Core.Path.{ap}
use native.Mathlib.Omega.{arith}
use Rattle.link_sums.specs.declared.table.LinkSums.{LinkSums}
use Rattle.link_sums.specs.Tables.{Part}
use Rattle.link_sums.proofs.Tables.{link-added}
use Rattle.link_sums.proofs.table.add_link.Goals as goal

pub plus-requires-clause-old : goal.plus-requires-clause-old
plus-requires-clause-old c = omega (arith, ap (λ (s : LinkSums). s.old) c.of.ensures, c.requires.room.most Part.old c.args.link c.requires.link, c.requires.amounts)

pub plus-requires-clause-new : goal.plus-requires-clause-new
plus-requires-clause-new c = omega (arith, ap (λ (s : LinkSums). s.new) c.of.ensures, c.requires.room.most Part.new c.args.link c.requires.link, c.requires.amounts)

pub plus-requires-clause-peak : goal.plus-requires-clause-peak
plus-requires-clause-peak c = omega (arith, ap (λ (s : LinkSums). s.peak) c.of.ensures, c.requires.room.most Part.peak c.args.link c.requires.link, c.requires.amounts)

pub returns : goal.returns
returns c = rw (c.plus.ensures, c.of.ensures) (link-added c.args.table.now c.args.link c.args.old c.args.new (omega (arith, c.requires.link, c.told-table)))
