-- `planner::rows::write_row` meets its contract: the row has the numbers of the tunnels passed, and then what it had.
use Prim.Native.Nat.{ℕ, ◌+◌, ◌-◌, ◌*◌}
use mathlib.Core.Path.{ap, ap₂, ◌∙◌}
use native.Mathlib.Omega.{arith}
use Rattle.model.specs.Even.{even_row}
use Rattle.model.specs.Listed.{listed}
use Rattle.model.proofs.Listed.{listed-none, listed-on}
use Rattle.lists.specs.Lists.{network_of}
use Rattle.planner.proofs.EvenLists.{listed-all, even-number}
use Rattle.planner.proofs.rows.write_row.Goals as goal

pub loop-t-init : goal.loop-t-init
loop-t-init c = listed-none _ _

pub old-requires : goal.old-requires
unfolding network_of
old-requires c = omega (arith, c.loop-t-test.true, c.requires.2)

pub new_amount-requires : goal.new_amount-requires
unfolding network_of
new_amount-requires c = omega (arith, c.loop-t-test.true, c.requires.2)

pub loop-t-preserved : goal.loop-t-preserved
loop-t-preserved c =
    listed-on _ c.loop-t.t _ _ _ c.loop-t.invariant c.loop-t-test.true
    (ap₂ (λ (o n : ℕ). (c.args.q - c.args.a) * o + c.args.a * n) c.old.ensures.value c.new_amount.ensures.value
    ∙ even-number (network_of c.args.network.now) c.args.q c.args.a c.loop-t.t c.requires.0)

pub returns : goal.returns
returns c = listed-all _ c.loop-t.t _ _ c.loop-t.invariant (omega (arith, c.loop-t.auto, c.loop-t-test.false)) ∙ ap (λ (n : ℕ). listed n (even_row (network_of c.args.network.now) c.args.q c.args.a)) c.requires.2
