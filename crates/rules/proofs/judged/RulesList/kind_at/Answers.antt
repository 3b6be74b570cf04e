-- `rules::judged::RulesList::kind_at` meets its contract.
use Prim.Native.Nat.{ℕ, ◌+◌}
use mathlib.Core.Path.{ap, ◌∙◌}
use mathlib.Core.List.{List}
use native.Mathlib.Omega.{arith}
use Rattle.lists.specs.Lists.{at}
use Rattle.rules.specs.Lists.{GoodRules}
use Rattle.rules.proofs.judged.RulesList.kind_at.Goals as goal

pub returns : goal.returns
returns c = c.numbered.ensures ∙ ap (λ (l : List ℕ). at l (c.args.from + 1)) c.self.view_is

pub overflow_add-from : goal.overflow_add-from
overflow_add-from c =
    let good : GoodRules c.args.self.now = rw c.self.view_is at c.self.invariant.good in omega (arith, c.requires.1, c.requires.2, good.size, good.switches, good.tunnels)

pub offset_bounds-list-from : goal.offset_bounds-list-from
offset_bounds-list-from c =
    let good : GoodRules c.args.self.now = rw c.self.view_is at c.self.invariant.good in omega (arith, c.requires.1, c.requires.2, good.size, good.switches, good.tunnels)
