-- `writers::write::put_tunnels` meets its contract.
use Prim.Native.Nat.{◌*◌}
use lib.ListN.{length}
use Rattle.lists.specs.Lists.{network_sizes, tunnel_at}
use Rattle.forms.specs.Form.{tunnel_lines}
use Rattle.forms.specs.declared.form.Form.TheVariants.{Network}
use Rattle.lines.specs.Puts.{Puts}
use Rattle.lengths.specs.Lines.{lines_from}
use Rattle.writers.proofs.write.put_tunnels.Given as goal

abbrev pub invariant-loop-t : goal.invariant-loop-t
invariant-loop-t l = Puts (lines_from Network l.network (tunnel_at (network_sizes l.network) 0) (length (tunnel_lines (network_sizes l.network)) * l.t)) l.at l.initial.out l.out l.p
