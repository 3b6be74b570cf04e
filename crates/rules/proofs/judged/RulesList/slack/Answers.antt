-- `rules::judged::RulesList::slack` meets its contract.
use Prim.Native.Nat.{ℕ}
use mathlib.Core.Path.{ap}
use mathlib.Core.List.{List}
use Rattle.rules.specs.Lists.{rules_of}
use Rattle.rules.proofs.judged.RulesList.slack.Goals as goal

pub returns-clause-value : goal.returns-clause-value
unfolding rules_of
returns-clause-value c = ap (λ (l : List ℕ). (rules_of l).slack) c.self.view_is
