-- `rules::judged::RulesList::number_of_kind` meets its contract.
use Prim.Native.Nat.{ℕ, ◌+◌}
use mathlib.Core.Path.{ap, ◌∙◌}
use mathlib.Core.List.{List}
use Rattle.lists.specs.Lists.{at, rule_at}
use Rattle.lists.specs.declared.RuleTables.{RuleTables}
use Rattle.rules.specs.Lists.{rules_of}
use Rattle.rules.proofs.judged.RulesList.number_of_kind.Goals as goal

pub returns : goal.returns
unfolding rules_of
returns c =
    ap (λ (i : ℕ). at c.self.inside.list.now (i + 1)) (c.rule_at-place.ensures ∙ ap (λ (n : RuleTables). rule_at n c.args.t) c.self.invariant.sizes)
    ∙ ap (λ (l : List ℕ). (rules_of l).kind c.args.t) c.self.view_is
