-- `desks::Desks::serve` meets its contract. Assumes nothing.
use Rattle.desks.proofs.Queues.{taken-told, taken-leaves}
use borrow.Author.Rules.{rules}
use Rattle.desks.proofs.Desks.serve.Goals as goal

pub returns-clause-answer_value : goal.returns-clause-answer_value
returns-clause-answer_value c = taken-told c.args.self.now c.args.desk.at _ c.place-at.ensures c.requires

pub returns-clause-desks_value : goal.returns-clause-desks_value
returns-clause-desks_value c = taken-leaves c.args.self.now c.args.desk.at _ c.counted-waiting.ensures c.args.desk.below c.requires (search rules) (search rules)
