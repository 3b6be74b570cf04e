-- `step_loads::worst_across` meets its contract.
use mathlib.Core.Path.{refl, sym, ◌∙◌}
use native.Mathlib.Omega.{arith}
use Rattle.lists.specs.Lists.{network_of, plan_of}
use Rattle.amounts.specs.Rows.{larger_row}
use Rattle.checker.proofs.Marking.{across-of}
use Rattle.step_loads.proofs.Adding.{across-by}
use Rattle.step_loads.proofs.worst_across.Goals as goal

pub returns-then-crosses : goal.returns-then-crosses
unfolding larger_row
returns-then-crosses c =
    let v = rw c.network.ensures.value at c.via.ensures.value in
    (across-by _ c.args.l c.args.t _ _ (larger_row (network_of c.args.pair.now.network) (plan_of c.args.pair.now.plan) c.args.i) v (sym c.crosses.ensures ∙ c.if-crosses.true) (grind arith), grind arith)

pub returns-else-crosses : goal.returns-else-crosses
returns-else-crosses c =
    let v = rw c.network.ensures.value at c.via.ensures.value in
    let amounts = larger_row (network_of c.args.pair.now.network) (plan_of c.args.pair.now.plan) c.args.i in
    (across-of _ c.args.l c.args.t _ (amounts c.args.t) 0 amounts v refl (rw (sym c.crosses.ensures ∙ c.if-crosses.false) refl), omega arith)
