-- Passing with a lag means passing with less.
use mathlib.Core.Path.{refl}
use Rattle.lists.specs.Lists.{network_of}
use Rattle.model.specs.Even.{even}
use Rattle.model.proofs.Weaker.{weaker}
use Rattle.planner.proofs.Main.{claim}
use Rattle.product.specs.Lags.{Lags}
use Rattle.product.proofs.Main.{returns-planned}
use Rattle.product.proofs.Plans.{demand2}
use Rattle.product.proofs.Fewer.{less-accepts, less-returns}

pub lags : Lags
lags = record {
  checker = λ w v n p room lag h a. less-accepts w v n n lag ((demand2.accepts w n p room).0 a).0.network refl (λ P. weaker.lag w v (network_of n) P h) p room a;
  planner = λ w v n p out lag h r.
      less-returns w v n n lag (claim.safe w n p (returns-planned w n p out r)).network refl (λ q. weaker.lag w v (network_of n) (even (network_of n) q) h) p out r;
}
