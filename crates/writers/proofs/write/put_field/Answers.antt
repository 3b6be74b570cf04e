-- `writers::write::put_field` meets its contract.
use mathlib.Core.Path.{sym, ◌∙◌}
use Rattle.lines.proofs.Writing.{puts_none}
use Rattle.writers.proofs.write.put_field.Goals as goal

pub returns-in_default : goal.returns-in_default
returns-in_default c = rw c.in_default.is (puts_none _ _)

pub put_line-requires-clause-v_bound : goal.put_line-requires-clause-v_bound
put_line-requires-clause-v_bound c = c.requires.writable.small _ _ c.in-Some.is (sym c.is_hex.ensures ∙ c.if-is_hex.false)
