-- `checker::marks::Window::largest_amount` meets its contract.
use Prim.Native.Nat.{ℕ, ◌+◌}
use mathlib.Core.Path.{ap, ◌∙◌}
use native.Mathlib.Omega.{arith}
use Rattle.model.specs.Largest.{largest}
use Rattle.model.specs.Net.{row}
use Rattle.lists.specs.Lists.{network_of, plan_of}
use Rattle.checker.proofs.Marking.{rows_in, rows-through, largest-first, largest-next}
use Rattle.checker.proofs.marks.Window.largest_amount.Goals as goal

pub overflow_add-last : goal.overflow_add-last
overflow_add-last c = omega (arith, rows_in _ _ _ _ _ _ c.args.self.now.there c.reach.ensures, c.args.self.now.there.steps)

pub amount-largest-requires-clause-row : goal.amount-largest-requires-clause-row
amount-largest-requires-clause-row c = omega (arith, rows_in _ _ _ _ _ _ c.args.self.now.there c.reach.ensures)

pub loop-a-init : goal.loop-a-init
loop-a-init c = largest-first _ (λ a. row (network_of c.args.self.now.pair.now.network) (plan_of c.args.self.now.pair.now.plan) a c.args.t) _ c.amount-largest.ensures.value

pub amount-requires-clause-row : goal.amount-requires-clause-row
amount-requires-clause-row c = omega (arith, rows_in _ _ _ _ _ _ c.args.self.now.there c.reach.ensures)

pub loop-a-preserved : goal.loop-a-preserved
loop-a-preserved c =
    largest-next _ _ (λ a. row (network_of c.args.self.now.pair.now.network) (plan_of c.args.self.now.pair.now.plan) a c.args.t) _ _ _ (omega arith) c.loop-a.invariant c.amount.ensures.value c.max-largest.ensures

pub returns : goal.returns
returns c =
    let m = rows-through _ _ _ _ (omega arith) (omega arith) (omega arith) c.reach.ensures in
    c.loop-a.invariant ∙ ap (λ (k : ℕ). largest k (λ b. row (network_of c.args.self.now.pair.now.network) (plan_of c.args.self.now.pair.now.plan) (c.args.self.now.row + b) c.args.t)) m
