-- What holds of the lists that are judged good, beside their sizes.
use Rattle.std.specs.Prelude.{◌≡◌}
use Rattle.lists.specs.declared.judged.NetworkList.TheInside as network
use Rattle.lists.specs.declared.judged.PlanList.TheInside as plan
use Rattle.lists.specs.Lists.{network_sizes, plan_sizes}
use Rattle.lists.specs.Good.{GoodNetwork, GoodPlan}

pub record IsNetwork (n : network.Inside) : Type 0 where
  pub good : GoodNetwork n.list.now
  pub sizes : n.sizes ≡ network_sizes n.list.now

pub record IsPlan (p : plan.Inside) : Type 0 where
  pub good : GoodPlan p.numbers.now
  pub head : p.head ≡ plan_sizes p.numbers.now
