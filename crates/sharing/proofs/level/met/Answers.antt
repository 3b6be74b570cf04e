-- `sharing::level::met` meets its contract. Assumes nothing.
use mathlib.Core.Path.{sym, ap}
use mathlib.Core.Bool.{Bool, cond}
use native.Mathlib.Omega.{arith}
use borrow.Author.Tests.{le-leb, lt-leb}
use Rattle.sharing.proofs.level.met.Goals as goal

pub returns-then-demand-level : goal.returns-then-demand-level
returns-then-demand-level c = record {
  value = sym (ap (λ (b : Bool). cond b c.args.demand 0) (le-leb _ _ c.if-demand-level.true));
  upper_bound = omega arith;
}

pub returns-else-demand-level : goal.returns-else-demand-level
returns-else-demand-level c = record {
  value = sym (ap (λ (b : Bool). cond b c.args.demand 0) (lt-leb _ _ c.if-demand-level.false));
  upper_bound = omega arith;
}
