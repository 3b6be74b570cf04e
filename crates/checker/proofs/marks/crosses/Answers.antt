-- `checker::marks::crosses` meets its contract: the mask is the remainder by 2.
use Prim.Native.Nat.{◌/◌, ◌^◌}
use mathlib.Core.Path.{ap}
use lib.Bits.{and_mask}
use lib.Dec.{eqb}
use Rattle.checker.proofs.marks.crosses.Goals as goal

pub returns : goal.returns
returns c = ap (λ x. eqb x 1) (and_mask (c.args.via / 2 ^ c.args.l) 1)
