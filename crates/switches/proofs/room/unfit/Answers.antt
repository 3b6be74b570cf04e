-- `switches::room::unfit` meets its contract. Assumes nothing.
use mathlib.Core.Path.{refl}
use borrow.Author.Tests.{lt-ltb, le-ltb}
use Rattle.switches.specs.Inner.{unfit_by}
use Rattle.switches.proofs.room.unfit.Goals as goal

pub returns-then-usable-kept : goal.returns-then-usable-kept
unfolding unfit_by
returns-then-usable-kept c = rw (lt-ltb _ _ c.if-usable-kept.true) refl

pub returns-then-usable-kept-2 : goal.returns-then-usable-kept-2
unfolding unfit_by
returns-then-usable-kept-2 c = rw (le-ltb _ _ c.if-usable-kept.false, lt-ltb _ _ c.if-usable-kept-2.true) refl

pub returns : goal.returns
unfolding unfit_by
returns c = rw (le-ltb _ _ c.if-usable-kept.false, le-ltb _ _ c.if-usable-kept-2.false) refl
