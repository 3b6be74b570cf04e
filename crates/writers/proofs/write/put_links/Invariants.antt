-- `writers::write::put_links` meets its contract.
use Prim.Native.Nat.{◌*◌}
use Rattle.lists.specs.Lists.{per_link, network_sizes, link_at}
use Rattle.forms.specs.declared.form.Form.TheVariants.{Network}
use Rattle.lines.specs.Puts.{Puts}
use Rattle.lengths.specs.Lines.{lines_from}
use Rattle.writers.proofs.write.put_links.Given as goal

abbrev pub invariant-loop-k : goal.invariant-loop-k
invariant-loop-k l = Puts (lines_from Network l.network (link_at (network_sizes l.network) 0) (per_link (network_sizes l.network).edition * l.k)) l.at l.initial.out l.out l.p
