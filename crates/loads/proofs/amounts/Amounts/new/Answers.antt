-- `loads::amounts::Amounts::new` meets its contract.
use Rattle.loads.proofs.Passes.{no-amounts}
use Rattle.loads.proofs.amounts.Amounts.new.Goals as goal

pub invariant_of-result : goal.invariant_of-result
invariant_of-result c = record { table = no-amounts }
