-- `checker::sums::lies_between` meets its contract.
use Prim.Native.Nat.{◌*◌}
use mathlib.Core.Path.{sym, ◌∙◌}
use native.Mathlib.Nat.{mul-le-mul}
use borrow.Author.Tests.{le-leb, lt-leb}
use Rattle.checker.proofs.Totals.{lies-at-rate, lies-up, lies-down}
use native.Mathlib.Omega.{arith}
use Rattle.checker.proofs.sums.lies_between.Goals as goal

pub overflow_mul-by_rate : goal.overflow_mul-by_rate
overflow_mul-by_rate c = omega (arith, mul-le-mul c.requires.0 c.requires.1)

pub returns-then-sum-by_rate : goal.returns-then-sum-by_rate
returns-then-sum-by_rate c = sym (lies-at-rate c.args.sum c.args.parts c.args.rate c.args.next c.if-sum-by_rate.true)

pub overflow_mul-by_next : goal.overflow_mul-by_next
overflow_mul-by_next c = omega (arith, mul-le-mul c.requires.0 c.requires.2)

pub returns-then-by_rate-sum : goal.returns-then-by_rate-sum
returns-then-by_rate-sum c = rw (le-leb (c.args.parts * c.args.rate) c.args.sum (omega (arith, c.if-by_rate-sum.true))) at (lies-up c.args.sum c.args.parts c.args.rate c.args.next c.if-by_rate-by_next.true)

pub returns-else-by_rate-sum : goal.returns-else-by_rate-sum
returns-else-by_rate-sum c = let e = lt-leb (c.args.parts * c.args.rate) c.args.sum (omega (arith, c.if-by_rate-sum.false)) in e ∙ rw e at (lies-up c.args.sum c.args.parts c.args.rate c.args.next c.if-by_rate-by_next.true)

pub returns-then-by_next-sum : goal.returns-then-by_next-sum
returns-then-by_next-sum c = rw (le-leb (c.args.parts * c.args.next) c.args.sum (omega (arith, c.if-by_next-sum.true))) at (lies-down c.args.sum c.args.parts c.args.rate c.args.next (omega (arith, c.if-by_rate-by_next.false)))

pub returns-else-by_next-sum : goal.returns-else-by_next-sum
returns-else-by_next-sum c = let e = lt-leb (c.args.parts * c.args.next) c.args.sum (omega (arith, c.if-by_next-sum.false)) in e ∙ rw e at (lies-down c.args.sum c.args.parts c.args.rate c.args.next (omega (arith, c.if-by_rate-by_next.false)))
