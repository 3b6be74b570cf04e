-- `bound::entry` meets its contract: what it reads is the card's rule.
use native.Mathlib.Omega.{arith}
use Rattle.bound.proofs.Laws.{share}
use Rattle.bound.proofs.entry.Goals as goal

pub overflow_sub-result : goal.overflow_sub-result
overflow_sub-result c = omega (arith, share c.args.share c.requires.1)

pub bounds-card-share : goal.bounds-card-share
bounds-card-share c =
    omega (arith, share c.args.share c.requires.1, c.requires.0.entries)

pub returns : goal.returns
returns c =
    c.requires.0.rule c.args.share c.requires.1
