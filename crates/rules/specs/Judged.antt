-- What holds of rule tables that are judged good, beside their sizes.
use Rattle.std.specs.Prelude.{◌≡◌}
use Rattle.rules.specs.declared.judged.RulesList.TheInside as rules
use Rattle.lists.specs.Lists.{table_sizes}
use Rattle.rules.specs.Lists.{GoodRules}

pub record IsRules (n : rules.Inside) : Type 0 where
  pub good : GoodRules n.list.now
  pub sizes : n.sizes ≡ table_sizes n.list.now
