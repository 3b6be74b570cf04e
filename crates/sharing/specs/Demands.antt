-- What holds of demands that are judged.
use Rattle.std.specs.Prelude.{◌≡◌}
use Rattle.sharing.specs.declared.demands.Demands.TheInside as demands
use Rattle.sharing.specs.Share.{total}
use Rattle.sharing.specs.Inner.{InRange}

pub record AreDemands (d : demands.Inside) : Type 0 where
  pub in_range : InRange d.list.now
  pub adds : d.sum ≡ total d.list.now
