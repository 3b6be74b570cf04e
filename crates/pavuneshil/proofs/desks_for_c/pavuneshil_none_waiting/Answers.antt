-- `pavuneshil::pavuneshil_none_waiting` meets its contract. Assumes nothing.
use mathlib.Core.Path.{ap, ◌∙◌}
use Rattle.desks.specs.Seen.{seen}
use Rattle.pavuneshil.proofs.desks_for_c.pavuneshil_none_waiting.Goals as goal

pub returns : goal.returns
returns c = ap seen c.leave.ensures ∙ c.none_waiting.ensures
