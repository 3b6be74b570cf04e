-- `rules::judged::RulesList::room` meets its contract.
use Prim.Native.Nat.{ℕ}
use mathlib.Core.Path.{ap, ap₂, ◌∙◌}
use mathlib.Core.List.{List}
use Rattle.lists.specs.Lists.{at, room_at}
use Rattle.lists.specs.declared.RuleTables.{RuleTables}
use Rattle.rules.specs.Lists.{rules_of}
use Rattle.rules.proofs.judged.RulesList.room.Goals as goal

pub returns-clause-value : goal.returns-clause-value
unfolding rules_of
returns-clause-value c =
    ap (λ (i : ℕ). at c.self.inside.list.now i) (c.room_at.ensures ∙ ap (λ (n : RuleTables). room_at n c.args.s) c.self.invariant.sizes)
    ∙ ap (λ (l : List ℕ). (rules_of l).room c.args.s) c.self.view_is
