-- `page::blocks::put_tunnels` meets its contract: each turn puts a line.
use Prim.Native.Nat.{◌*◌}
use Rattle.lists.specs.Lists.{network_of}
use Rattle.fields.specs.Columns.{line_size}
use Rattle.fields.proofs.Fields.{Put}
use Rattle.page.specs.Page.{tunnel_fields}
use Rattle.page.specs.Inner.{block}
use Rattle.page.proofs.blocks.put_tunnels.Given as goal

abbrev pub invariant-loop-t : goal.invariant-loop-t
invariant-loop-t l = Put (block l.t (tunnel_fields (network_of l.pair.network))) (line_size * l.t) l.from l.initial.out l.out l.at
