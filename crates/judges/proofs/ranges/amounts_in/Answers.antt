-- `judges::ranges::amounts_in` meets its contract.
use Rattle.judges.proofs.InRange.{decides-yes, decides-no}
use Rattle.judges.proofs.PlanInRange.{amounts-more, amounts-all}
use native.Mathlib.Omega.{arith}
use Rattle.judges.proofs.ranges.amounts_in.Goals as goal

pub returns-then-high-list : goal.returns-then-high-list
returns-then-high-list c = decides-no (λ a. absurd (omega (arith, a.amount c.loop-i.i (omega (arith, c.loop-i.auto.i)) (omega arith), c.if-high-list.true)))

pub loop-i-preserved : goal.loop-i-preserved
loop-i-preserved c = amounts-more _ _ _ c.loop-i.invariant (omega (arith, c.if-high-list.false))

pub returns : goal.returns
returns c = decides-yes (amounts-all _ _ _ c.loop-i.invariant (omega arith))
