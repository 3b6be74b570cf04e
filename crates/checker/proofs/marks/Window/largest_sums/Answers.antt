-- `checker::marks::Window::largest_sums` meets its contract.
use native.Mathlib.Nat.{sub_self}
use native.Mathlib.Omega.{arith}
use Rattle.checker.proofs.Marking.{rows_in, rows-through, sums-next}
use Rattle.checker.proofs.marks.Window.largest_sums.Goals as goal

pub overflow_add-last : goal.overflow_add-last
overflow_add-last c = omega (arith, rows_in _ _ _ _ _ _ c.args.self.now.there c.reach.ensures, c.args.self.now.there.steps)

pub loop-a-init : goal.loop-a-init
loop-a-init c = rw (sub_self c.args.self.now.row) c.requires

pub flow_sums-requires : goal.flow_sums-requires
flow_sums-requires c = (omega (arith, rows_in _ _ _ _ _ _ c.args.self.now.there c.reach.ensures), c.args.self.now.there.link)

pub loop-a-preserved : goal.loop-a-preserved
loop-a-preserved c = sums-next _ _ _ _ _ _ _ _ (omega arith) c.loop-a.invariant c.flow_sums.ensures c.raise.ensures

pub returns : goal.returns
returns c =
    let m = rows-through c.args.self.now.row c.loop-a.a c.reach.result _ (omega arith) (omega arith) (omega arith) c.reach.ensures in
    rw m at c.loop-a.invariant
