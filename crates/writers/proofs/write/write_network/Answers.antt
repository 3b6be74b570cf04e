-- `writers::write::write_network` meets its contract.
use mathlib.Core.Path.{sym, ◌∙◌}
use Rattle.forms.specs.declared.form.Form.TheVariants.{Network}
use Rattle.writers.proofs.Written.{ok-whole, ok-written}
use Rattle.writers.proofs.write.write_network.Goals as goal

pub network_needed-network_size-requires : goal.network_needed-network_size-requires
network_needed-network_size-requires c = ok-whole Network _ _ (sym c.judge_network.ensures ∙ c.in_ok-network.was)

pub put_network-requires-clause-whole : goal.put_network-requires-clause-whole
put_network-requires-clause-whole c = ok-whole Network _ _ (sym c.judge_network.ensures ∙ c.in_ok-network.was)

pub returns-clause-out_after : goal.returns-clause-out_after
returns-clause-out_after c = ok-written Network _ _ (sym c.judge_network.ensures ∙ c.in_ok-network.was) _ (c.network_needed-network_size.ensures.fits c.if-out-network_size.false) c.put_network.ensures
