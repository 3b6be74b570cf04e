-- `lists::judged::NetworkList::overrun` meets its contract.
use native.Mathlib.Omega.{arith}
use Rattle.lists.proofs.Numbers.{overrun-is}
use Rattle.lists.proofs.Positions.{head_in, head-least}
use Rattle.lists.proofs.judged.NetworkList.overrun.Goals as goal

pub bounds-self-inside-2 : goal.bounds-self-inside-2
bounds-self-inside-2 c = omega (arith, head_in _ c.self.invariant.good.ranges.sized.size, head-least)

pub returns-clause-value : goal.returns-clause-value
returns-clause-value c = overrun-is c.self.inside.list.now c.args.self.now c.self.view_is
