-- `amounts::pair::Pair::before` meets its contract.
use mathlib.Core.Path.{ap}
use native.Mathlib.Omega.{arith}
use Rattle.lists.specs.Lists.{at, plan_of}
use Rattle.amounts.specs.Lists.{Lists}
use Rattle.amounts.proofs.PairRows.{old-row, listed-row}
use Rattle.amounts.proofs.pair.Pair.before.Goals as goal

pub returns-then-i-eq0-clause-value : goal.returns-then-i-eq0-clause-value
returns-then-i-eq0-clause-value c = old-row _ _ _ c.self.view_is _ _ _ _ c.parts.ensures.value c.old.ensures.value c.if-i-eq0.true

pub returns-clause-value : goal.returns-clause-value
unfolding plan_of
returns-clause-value c = listed-row _ _ _ c.self.view_is _ _ _ c.listed.ensures.value (omega arith) (omega (arith, c.requires.row, ap (λ (s : Lists). at s.plan 2) c.self.view_is))
