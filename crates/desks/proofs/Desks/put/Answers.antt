-- `desks::Desks::put` meets its contract. Assumes nothing.
use Rattle.desks.proofs.Queues.{stored-joins}
use borrow.Author.Rules.{rules}
use Rattle.desks.proofs.Desks.put.Goals as goal

pub returns : goal.returns
returns c =
    let s = c.args in
    stored-joins s.self.now s.desk.at c.place-at.result _ _ c.place-at.ensures s.desk.below c.requires (search rules) (search rules) (search rules) (search rules)
