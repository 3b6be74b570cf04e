-- `rules::judged::RulesList::switches` meets its contract.
use Prim.Native.Nat.{ℕ}
use mathlib.Core.Path.{ap, ◌∙◌}
use mathlib.Core.List.{List}
use Rattle.lists.specs.declared.RuleTables.{RuleTables}
use Rattle.rules.specs.Lists.{rules_of}
use Rattle.rules.proofs.judged.RulesList.switches.Goals as goal

pub returns-clause-value : goal.returns-clause-value
unfolding rules_of
returns-clause-value c = ap (λ (n : RuleTables). n.switches) c.self.invariant.sizes ∙ ap (λ (l : List ℕ). (rules_of l).switches) c.self.view_is
