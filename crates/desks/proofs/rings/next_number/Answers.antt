-- `desks::rings::next_number` meets its contract. Assumes nothing.
use borrow.Author.Tests.{lt-ltb, le-ltb}
use Rattle.desks.specs.State.{next_number}
use Rattle.desks.proofs.rings.next_number.Goals as goal

pub returns-then-n-lt-LAST_NUMBER : goal.returns-then-n-lt-LAST_NUMBER
unfolding next_number
returns-then-n-lt-LAST_NUMBER c = simp (lt-ltb _ _ c.if-n-lt-LAST_NUMBER.true)

pub returns-else-n-lt-LAST_NUMBER : goal.returns-else-n-lt-LAST_NUMBER
unfolding next_number
returns-else-n-lt-LAST_NUMBER c = simp (le-ltb _ _ c.if-n-lt-LAST_NUMBER.false)
