-- `writers::write::put_flows` meets its contract.
use Prim.Native.Nat.{◌*◌}
use Rattle.lists.specs.Lists.{per_flow, network_sizes, flow_at}
use Rattle.forms.specs.declared.form.Form.TheVariants.{Network}
use Rattle.lines.specs.Puts.{Puts}
use Rattle.lengths.specs.Lines.{lines_from}
use Rattle.writers.proofs.write.put_flows.Given as goal

abbrev pub invariant-loop-f : goal.invariant-loop-f
invariant-loop-f l = Puts (lines_from Network l.network (flow_at (network_sizes l.network) 0) (per_flow (network_sizes l.network).edition * l.f)) l.at l.initial.out l.out l.p
