-- `lists::judged::PlanList::steps` meets its contract.
use Rattle.lists.proofs.Numbers.{steps-is}
use Rattle.lists.proofs.judged.PlanList.steps.Goals as goal

pub returns-clause-value : goal.returns-clause-value
returns-clause-value c = steps-is c.self.inside.numbers.now c.args.self.now c.self.view_is c.self.inside.head c.self.invariant.head
