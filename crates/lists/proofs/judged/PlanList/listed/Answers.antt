-- `lists::judged::PlanList::listed` meets its contract.
use Rattle.lists.proofs.Numbers.{listed-is}
use Rattle.lists.proofs.judged.PlanList.listed.Goals as goal

pub returns-clause-value : goal.returns-clause-value
returns-clause-value c = listed-is c.self.inside.numbers.now c.args.self.now c.self.view_is c.self.inside.head c.self.invariant.head c.args.a c.args.t c.row_at.result c.row_at.ensures
