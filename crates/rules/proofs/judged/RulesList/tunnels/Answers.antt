-- `rules::judged::RulesList::tunnels` meets its contract.
use Prim.Native.Nat.{ℕ}
use mathlib.Core.Path.{ap, ◌∙◌}
use mathlib.Core.List.{List}
use Rattle.lists.specs.declared.RuleTables.{RuleTables}
use Rattle.rules.specs.Lists.{rules_of}
use Rattle.rules.proofs.judged.RulesList.tunnels.Goals as goal

pub returns-clause-value : goal.returns-clause-value
unfolding rules_of
returns-clause-value c = ap (λ (n : RuleTables). n.tunnels) c.self.invariant.sizes ∙ ap (λ (l : List ℕ). (rules_of l).tunnels) c.self.view_is
