-- `checker::marks::clear` meets its contract.
use Rattle.checker.proofs.Marking.{all-clear}
use Rattle.checker.proofs.marks.clear.Goals as goal

pub returns : goal.returns
returns c = all-clear c.args.n c.args.marks.now _ c.requires (c.fill.ensures.after (λ y e. e))
