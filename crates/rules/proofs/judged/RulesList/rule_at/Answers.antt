-- `rules::judged::RulesList::rule_at` meets its contract.
use Prim.Native.Nat.{ℕ}
use mathlib.Core.Path.{ap, ◌∙◌}
use mathlib.Core.List.{List}
use Rattle.lists.specs.Lists.{table_sizes, rule_at}
use Rattle.lists.specs.declared.RuleTables.{RuleTables}
use Rattle.rules.proofs.judged.RulesList.rule_at.Goals as goal

pub returns-clause-value : goal.returns-clause-value
returns-clause-value c =
    c.rule_at.ensures
    ∙ ap (λ (n : RuleTables). rule_at n c.args.t) c.self.invariant.sizes
    ∙ ap (λ (l : List ℕ). rule_at (table_sizes l) c.args.t) c.self.view_is
