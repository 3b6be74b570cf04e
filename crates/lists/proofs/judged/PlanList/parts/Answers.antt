-- `lists::judged::PlanList::parts` meets its contract.
use Rattle.lists.proofs.Numbers.{parts-is}
use Rattle.lists.proofs.judged.PlanList.parts.Goals as goal

pub returns-clause-value : goal.returns-clause-value
returns-clause-value c = parts-is c.self.inside.numbers.now c.args.self.now c.self.view_is c.self.inside.head c.self.invariant.head
