-- `switches::tables::count` meets its contract: the tunnels passed are counted. Assumes nothing.
use mathlib.Core.Path.{sym, ◌∙◌}
use native.Mathlib.Omega.{arith}
use Rattle.switches.proofs.Tallies.{counted-zero, counted-table, kind-take, kind-skip, one_more}
use Rattle.switches.proofs.tables.count.Goals as goal
use Rattle.switches.proofs.tables.count.Goals.{then-number_of_kind-kind, else-number_of_kind-kind}

pub loop-t-init : goal.loop-t-init
loop-t-init c = counted-zero _ 0 _ _ c.requires

pub shift-requires : goal.shift-requires
shift-requires c = one_more _ _ (counted-table _ _ _ _ c.loop-t.invariant (omega (arith, c.tunnels-t-end.ensures.count, c.loop-t-test.true, c.tunnels-t-end.ensures.good.tunnels)))

pub loop-t-preserved : goal.loop-t-preserved
loop-t-preserved c =
    elim c.if-number_of_kind-kind.branch [
      | then-number_of_kind-kind w ↦ rw w.counts-is (kind-take _ _ _ _ c.loop-t.invariant _ (sym c.number_of_kind.ensures ∙ w.if-number_of_kind-kind.true) (rw w.via.ensures.value at w.shift.ensures))
      | else-number_of_kind-kind w ↦ rw w.counts-is (kind-skip _ _ _ _ c.loop-t.invariant (λ e. w.if-number_of_kind-kind.false (c.number_of_kind.ensures ∙ e)))
    ]
