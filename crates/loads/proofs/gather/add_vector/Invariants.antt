-- `loads::gather::add_vector` meets its contract.
use Rattle.lists.specs.Lists.{at}
use Rattle.loads.specs.Tables.{number_at}
use Rattle.loads.proofs.Vectors.{Adding}
use Rattle.loads.proofs.gather.add_vector.Given as goal

abbrev pub invariant-loop-k : goal.invariant-loop-k
invariant-loop-k l = Adding l.j l.k (λ b. at l.from (number_at l.i b)) l.initial.to l.to
