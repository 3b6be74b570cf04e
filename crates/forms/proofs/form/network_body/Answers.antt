-- `forms::form::network_body` meets its contract.
use mathlib.Core.Path.{sym, ◌∙◌}
use Rattle.forms.proofs.Forms.{stands-link, stands-flow, stands-tunnel, stands-past}
use Rattle.forms.proofs.form.network_body.Goals as goal

pub returns-in-Link : goal.returns-in-Link
returns-in-Link c = c.link_group.ensures ∙ sym (stands-link _ _ _ _ c.position.ensures _ _ c.in-Link.is)

pub returns-in-Flow : goal.returns-in-Flow
returns-in-Flow c = c.flow_group.ensures ∙ sym (stands-flow _ _ _ _ c.position.ensures _ _ c.in-Flow.is)

pub returns-in-Tunnel : goal.returns-in-Tunnel
returns-in-Tunnel c = c.tunnel_group.ensures ∙ sym (stands-tunnel _ _ _ _ c.position.ensures _ _ c.in-Tunnel.is)

pub returns-in-Past : goal.returns-in-Past
returns-in-Past c = sym (stands-past _ _ _ _ c.position.ensures c.in-Past.is)
