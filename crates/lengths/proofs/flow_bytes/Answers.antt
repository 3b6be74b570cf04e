-- `lengths::flow_bytes` meets its contract.
use mathlib.Core.Path.{sym, ◌∙◌}
use Rattle.lengths.specs.Lines.{flow_bytes}
use Rattle.lengths.proofs.flow_bytes.Goals as goal

pub returns-then-has_next : goal.returns-then-has_next
unfolding flow_bytes
returns-then-has_next c = let e = sym c.has_next.ensures ∙ c.if-has_next.true in rw e

pub returns-else-has_next : goal.returns-else-has_next
unfolding flow_bytes
returns-else-has_next c = let e = sym c.has_next.ensures ∙ c.if-has_next.false in rw e
