-- `page::blocks::put_links` meets its contract: each turn puts a line.
use Prim.Native.Nat.{◌*◌}
use Rattle.lists.specs.Lists.{network_of, plan_of}
use Rattle.fields.specs.Columns.{line_size}
use Rattle.fields.proofs.Fields.{Put}
use Rattle.page.specs.Page.{link_fields}
use Rattle.page.specs.Inner.{block}
use Rattle.page.proofs.blocks.put_links.Given as goal

abbrev pub invariant-loop-l : goal.invariant-loop-l
invariant-loop-l l = Put (block l.l (link_fields (network_of l.pair.network) (plan_of l.pair.plan) l.i)) (line_size * l.l) l.from l.initial.out l.out l.at
