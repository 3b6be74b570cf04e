-- `overloads::steps::next_in_block` meets its contract.
use mathlib.Core.Path.{refl}
use mathlib.Core.Logic.{inl, inr}
use native.Mathlib.Omega.{arith}
use Rattle.overloads.proofs.steps.next_in_block.Goals as goal

pub returns-then-next-steps : goal.returns-then-next-steps
returns-then-next-steps c = (c.if-next-steps.true, inl refl)

pub returns-else-next-steps : goal.returns-else-next-steps
returns-else-next-steps c = (omega (arith, c.requires.0), inr refl)
