-- `checker::sums::missed_flow` meets its contract.
use Prim.Native.Nat.{ℕ, ◌*◌, min, max}
use mathlib.Core.Path.{◌≡◌, sym, ap₂, ◌∙◌}
use mathlib.Core.Bool.{◌&&◌}
use native.Mathlib.Omega.{arith}
use lib.Dec.{leb}
use lib.ListN.{get_or}
use Rattle.model.specs.Rule.{between}
use Rattle.lists.specs.Lists.{network_of}
use Rattle.checker.proofs.Totals.{met-more}
use Rattle.checker.proofs.sums.missed_flow.Goals as goal
use Rattle.checker.proofs.sums.missed_flow.Goals.{After-lies_between}

-- what the turn's test says
told : (c : After-lies_between) → c.lies_between.result ≡ between (network_of c.args.network.now) c.args.parts c.loop-f.f (get_or c.args.sums.now c.loop-f.f 0)
unfolding between
told c =
    let s = get_or c.args.sums.now c.loop-f.f 0 in
    c.lies_between.ensures ∙ ap₂ (λ (r n : ℕ). leb (c.args.parts * min r n) s && leb s (c.args.parts * max r n)) c.rate.ensures.value c.next.ensures.value

pub returns-then-not-lies_between : goal.returns-then-not-lies_between
returns-then-not-lies_between c = (omega (arith, c.flows-f-end.ensures.value), c.loop-f.invariant, sym (told ((goal.at.returns-then-not-lies_between c).After-lies_between)) ∙ c.if-not-lies_between.true)

pub loop-f-preserved : goal.loop-f-preserved
loop-f-preserved c = met-more _ _ _ _ c.loop-f.invariant (sym (told ((goal.at.loop-f-preserved c).After-lies_between)) ∙ c.if-not-lies_between.false)
