-- `sharing::level::is_above` meets its contract. Assumes nothing.
use mathlib.Core.Path.{sym, ap}
use mathlib.Core.Bool.{Bool, cond}
use native.Mathlib.Omega.{arith}
use borrow.Author.Tests.{lt-ltb, le-ltb}
use Rattle.sharing.proofs.level.is_above.Goals as goal

pub returns-then-level-demand : goal.returns-then-level-demand
returns-then-level-demand c = record {
  value = sym (ap (λ (b : Bool). cond b 1 0) (lt-ltb _ _ c.if-level-demand.true));
  upper_bound = omega arith;
}

pub returns-else-level-demand : goal.returns-else-level-demand
returns-else-level-demand c = record {
  value = sym (ap (λ (b : Bool). cond b 1 0) (le-ltb _ _ c.if-level-demand.false));
  upper_bound = omega arith;
}
