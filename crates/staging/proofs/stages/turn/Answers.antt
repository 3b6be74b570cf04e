-- `staging::stages::turn` meets its contract: a tunnel of another kind, one that has a stage and one that does not go are left. Assumes nothing.
use Prim.Native.Nat.{ℕ, ◌+◌}
use mathlib.Core.Path.{◌≡◌, sym, ap, ◌∙◌}
use native.Mathlib.Omega.{arith}
use Rattle.lists.specs.Lists.{at}
use Rattle.rules.specs.Kinds.{kind_number}
use Rattle.rules.specs.Lists.{rules_of}
use Rattle.rules.proofs.KindNumbers.{differ, agree, as-numbers}
use Rattle.staging.specs.Inner.{goes_by}
use Rattle.staging.proofs.Turns.{kinds, small, table, turn-other, turn-has, turn-not, turn-shift, turn_on}
use Rattle.staging.proofs.stages.turn.Goals as goal
use Rattle.staging.proofs.stages.turn.Goals.{After-kind_at, After-via_at-via}

-- what is read at the place is the tunnel's
kind_here : (c : After-kind_at) → kind_number c.kind_at.result ≡ (rules_of c.args.rules.now).kind c.args.t
unfolding rules_of
kind_here c = c.kind_at.ensures ∙ ap (λ (i : ℕ). at c.args.rules.now (i + 1)) c.requires.t_bound.1

via_here : (c : After-via_at-via) → c.via_at-via.result ≡ (rules_of c.args.rules.now).via c.args.t
unfolding rules_of
via_here c = c.via_at-via.ensures ∙ ap (λ (i : ℕ). at c.args.rules.now i) c.requires.t_bound.1

pub kind_at-requires : goal.kind_at-requires
kind_at-requires c = (c.args.t, c.requires.t_bound.0, c.requires.t_bound.1)

pub via_at-via-requires : goal.via_at-via-requires
via_at-via-requires c = (c.args.t, c.requires.t_bound.0, c.requires.t_bound.1)

pub returns-then-ne : goal.returns-then-ne
returns-then-ne c =
    turn-other _ _ _ _ _ _ _ _ c.requires.ready _ c.requires.t_bound.0 (λ e. differ _ _ _ c.ne.ensures c.if-ne.true (kind_here ((goal.at.returns-then-ne c).After-kind_at) ∙ e))

pub returns-then-stages-t-ne0 : goal.returns-then-stages-t-ne0
returns-then-stages-t-ne0 c = turn-has _ _ _ _ _ _ _ _ c.requires.ready _ c.requires.t_bound.0 c.if-stages-t-ne0.true

pub fits-fits-requires-clause-table : goal.fits-fits-requires-clause-table
fits-fits-requires-clause-table c = (table _ _ _ _ _ _ _ _ c.requires.ready, c.requires.ready.spares.table)

pub fits-fits-requires-clause-unit_bound : goal.fits-fits-requires-clause-unit_bound
fits-fits-requires-clause-unit_bound c =
    let k = kinds _ _ _ _ _ _ _ _ c.requires.ready in
    let b = small _ _ _ _ _ _ _ _ c.requires.ready in
    (b.1, omega (arith, k, (as-numbers _ _ k c.eq-adds.ensures).1), b.0)

pub shift-requires : goal.shift-requires
shift-requires c =
    let r = c.requires.ready in
    let n = as-numbers _ _ (kinds _ _ _ _ _ _ _ _ r) c.eq-adds.ensures in
    turn-shift _ _ _ _ _ _ _ _ r _ c.requires.t_bound.0 _ _ _ (via_here ((goal.at.shift-requires c).After-via_at-via)) n.1 n.2 (sym (kind_here ((goal.at.shift-requires c).After-kind_at)) ∙ agree _ _ _ c.ne.ensures c.if-ne.false) c.if-stages-t-ne0.false

pub returns-then-fits-adds : goal.returns-then-fits-adds
unfolding goes_by
returns-then-fits-adds c =
    let r = c.requires.ready in
    let n = as-numbers _ _ (kinds _ _ _ _ _ _ _ _ r) c.eq-adds.ensures in
    turn_on _ _ _ _ _ _ _ _ r _ c.requires.t_bound.0 _ _ _ (via_here ((goal.at.returns-then-fits-adds c).After-via_at-via)) n.1 n.2 (sym (kind_here ((goal.at.returns-then-fits-adds c).After-kind_at)) ∙ agree _ _ _ c.ne.ensures c.if-ne.false) c.if-stages-t-ne0.false
    _ _ c.fits-fits.ensures (rw n.0 at c.if-fits-adds.true) c.shift.ensures

pub returns-else-fits-adds : goal.returns-else-fits-adds
unfolding goes_by
returns-else-fits-adds c =
    let r = c.requires.ready in
    let n = as-numbers _ _ (kinds _ _ _ _ _ _ _ _ r) c.eq-adds.ensures in
    turn-not _ _ _ _ _ _ _ _ r _ c.requires.t_bound.0 _ _ _ (via_here ((goal.at.returns-else-fits-adds c).After-via_at-via)) n.1 n.2 _ c.fits-fits.ensures (rw n.0 at c.if-fits-adds.false)
