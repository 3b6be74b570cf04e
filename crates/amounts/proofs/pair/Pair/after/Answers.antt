-- `amounts::pair::Pair::after` meets its contract.
use mathlib.Core.Path.{ap}
use native.Mathlib.Numerals.{add-one}
use native.Mathlib.Omega.{arith}
use Rattle.lists.specs.Lists.{at, plan_of}
use Rattle.amounts.specs.Lists.{Lists}
use Rattle.amounts.proofs.PairRows.{new-row, listed-row}
use Rattle.amounts.proofs.pair.Pair.after.Goals as goal

pub returns-then-steps-i-clause-value : goal.returns-then-steps-i-clause-value
unfolding plan_of
returns-then-steps-i-clause-value c = new-row _ _ _ c.self.view_is _ _ _ _ c.parts.ensures.value c.new_amount.ensures.value (omega arith) (omega arith)

pub returns-clause-value : goal.returns-clause-value
unfolding plan_of
returns-clause-value c =
    rw (← add-one c.args.i) (listed-row _ _ _ c.self.view_is _ _ _ c.listed.ensures.value (omega arith) (omega (arith, c.requires.row, ap (λ (s : Lists). at s.plan 2) c.self.view_is)))
