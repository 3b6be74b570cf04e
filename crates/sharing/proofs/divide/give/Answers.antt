-- `sharing::divide::give` meets its contract. Assumes nothing.
use Prim.Native.Nat.{ℕ}
use mathlib.Core.Path.{ap, ◌∙◌}
use mathlib.Core.List.{List, ◌++◌}
use native.Mathlib.Omega.{arith}
use lib.ListN.{length, drop}
use Rattle.sharing.proofs.Levels.{level-low}
use Rattle.sharing.proofs.Shares.{shares-met, shares-found}
use Rattle.sharing.proofs.divide.give.Goals as goal

pub fill-requires-else-sum-rate : goal.fill-requires-else-sum-rate
fill-requires-else-sum-rate c =
    (rw c.list-else-sum-rate.ensures.list c.requires.1, omega (arith, c.requires.0, c.find.ensures.0, level-low c.args.rate c.args.demands.now))

pub returns-then-sum-rate : goal.returns-then-sum-rate
returns-then-sum-rate c =
    (rw c.list.ensures.list at c.fill.ensures) ∙ ap (λ (l : List ℕ). l ++ drop (length c.args.demands.now) c.args.out.now) (shares-met c.args.rate c.args.demands.now (omega (arith, c.if-sum-rate.true, c.sum.ensures)))

pub returns-else-sum-rate : goal.returns-else-sum-rate
returns-else-sum-rate c =
    (rw c.list-else-sum-rate.ensures.list at c.fill-else-sum-rate.ensures)
    ∙ ap (λ (l : List ℕ). l ++ drop (length c.args.demands.now) c.args.out.now) (shares-found c.args.rate c.args.demands.now c.find.ensures.0 c.find.ensures.1 (omega (arith, c.if-sum-rate.false, c.sum.ensures)))
