-- `lengths::head_bytes` meets its contract.
use mathlib.Core.Path.{sym, ◌∙◌}
use Rattle.lengths.specs.Lines.{head_bytes}
use Rattle.lengths.proofs.head_bytes.Goals as goal

pub returns-then-has_held : goal.returns-then-has_held
unfolding head_bytes
returns-then-has_held c = let e = sym c.has_held.ensures ∙ c.if-has_held.true in rw e

pub returns-else-has_held : goal.returns-else-has_held
unfolding head_bytes
returns-else-has_held c = let e = sym c.has_held.ensures ∙ c.if-has_held.false in rw e
