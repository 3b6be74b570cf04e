-- `switches::room::by_counts` meets its contract: the switches passed are not too full, and what is spare at each is in its table. Assumes nothing.
use mathlib.Core.Path.{sym, ◌∙◌}
use native.Mathlib.Omega.{arith}
use Prim.Native.Nat.{◌<◌}
use Rattle.lists.specs.Lists.{table_sizes}
use Rattle.switches.proofs.Fitting.{judging-start, judging-not, kept-most, judging-on, judging-end, counts-most}
use Rattle.switches.proofs.room.by_counts.Goals as goal
use Rattle.switches.proofs.room.by_counts.Goals.{After-room}

-- in a turn: the switch
there : (c : After-room) → c.loop-s.s < (table_sizes c.args.rules.now).switches
there c = omega (arith, c.loop-s-test.true, c.switches-s-end.ensures.count)

pub loop-s-init : goal.loop-s-init
loop-s-init c = judging-start _ _ c.requires.spares_value

pub unfit-requires : goal.unfit-requires
unfit-requires c = let m = counts-most _ _ _ _ c.slack-free.ensures.good c.requires.kinds _ (there ((goal.at.unfit-requires c).After-room)) in (m.0, m.2, m.1)

pub returns-in-Some : goal.returns-in-Some
returns-in-Some c =
    judging-not _ _ _ _ c.slack-free.ensures.good c.requires.kinds _ (there ((goal.at.returns-in-Some c).After-room)) _ _ c.slack-free.ensures.value c.room.ensures.value _ c.loop-s.invariant _ (sym c.in-Some.is ∙ c.unfit.ensures)

pub overflow_mul-spares : goal.overflow_mul-spares
overflow_mul-spares c = omega (arith, counts-most _ _ _ _ c.slack-free.ensures.good c.requires.kinds _ (there ((goal.at.overflow_mul-spares c).After-room)))

pub overflow_sub-spares : goal.overflow_sub-spares
overflow_sub-spares c =
    kept-most _ _ _ _ c.slack-free.ensures.good c.requires.kinds _ (there ((goal.at.overflow_sub-spares c).After-room)) _ _ c.slack-free.ensures.value c.room.ensures.value _ c.loop-s.invariant (sym c.in_default.is ∙ c.unfit.ensures)

pub loop-s-preserved : goal.loop-s-preserved
loop-s-preserved c =
    judging-on _ _ _ _ c.slack-free.ensures.good c.requires.kinds _ (there ((goal.at.loop-s-preserved c).After-room)) _ _ c.slack-free.ensures.value c.room.ensures.value _ c.loop-s.invariant (sym c.in_default.is ∙ c.unfit.ensures) c.room.ensures.most

pub returns : goal.returns
returns c = judging-end _ _ _ c.loop-s.invariant (omega (arith, c.loop-s-test.false, c.loop-s.auto.s-end, c.switches-s-end.ensures.count))
