-- `judges::ranges::head_line` meets its contract.
use mathlib.Core.Path.{ap, sym, ◌∙◌}
use lib.ListN.{get_or}
use Rattle.std.specs.declared.option.Option.TheVariants.{None}
use Rattle.forms.specs.declared.form.Form.{Form}
use Rattle.judges.specs.Ranges.{head_lines}
use Rattle.judges.proofs.ranges.head_line.Goals as goal

pub returns-in-Network : goal.returns-in-Network
returns-in-Network c = c.network_head.ensures ∙ ap (λ (f : Form). get_or (head_lines f c.args.edition) c.args.n None) (sym c.in-Network.is)
