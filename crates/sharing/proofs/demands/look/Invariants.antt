-- `sharing::demands::look` meets its contract: no demand passed is out of range, and those passed are added up. Assumes nothing.
use Prim.Native.Nat.{◌*◌, ◌≤◌}
use mathlib.Core.Path.{◌≡◌}
use mathlib.Core.Bool.{true}
use mathlib.Core.Option.{none}
use Rattle.model.specs.Sum.{sum_over}
use Rattle.model.specs.Search.{first}
use Rattle.model.specs.Limits.{most_amount}
use Rattle.lists.specs.Lists.{at}
use Rattle.sharing.specs.Share.{bad_demand}
use Rattle.sharing.proofs.demands.look.Given as goal

abbrev pub invariant-loop-bad : goal.invariant-loop-bad
invariant-loop-bad l = record {
  good : first l.bad (bad_demand l.list) ≡ none;
  adds : l.sum ≡ sum_over l.bad (λ j. true) (at l.list);
  small : l.sum ≤ l.bad * most_amount;
}
