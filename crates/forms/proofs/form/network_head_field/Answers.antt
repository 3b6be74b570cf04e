-- `forms::form::network_head_field` meets its contract.
use mathlib.Core.Path.{sym, ◌∙◌}
use Rattle.forms.proofs.Forms.{own-head, no-head}
use Rattle.forms.proofs.form.network_head_field.Goals as goal

pub returns-then-i-eq0 : goal.returns-then-i-eq0
returns-then-i-eq0 c = c.network_head.ensures ∙ no-head c.args.done.now c.if-i-eq0.true

pub returns : goal.returns
returns c = c.network_head-2.ensures ∙ sym (own-head c.args.done.now c.requires)
