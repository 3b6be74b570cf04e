-- `desks::Desks::from_other` meets its contract. Assumes nothing.
use Prim.Native.Nat.{min}
use mathlib.Core.Path.{sym, ap₂, ◌∙◌}
use Rattle.desks.proofs.Rounds.{other-own, other-one}
use Rattle.desks.proofs.Desks.from_other.Goals as goal

pub returns-then-other-desk-clause-value : goal.returns-then-other-desk-clause-value
returns-then-other-desk-clause-value c = sym (other-own _ _ _ c.if-other-desk.true)

pub returns-clause-value : goal.returns-clause-value
returns-clause-value c = c.min.ensures ∙ ap₂ min c.counted.ensures c.turns.ensures ∙ sym (other-one _ _ _ c.if-other-desk.false)
