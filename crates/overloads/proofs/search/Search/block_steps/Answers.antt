-- `overloads::search::Search::block_steps` meets its contract.
use Rattle.lists.specs.Lists.{network_of, plan_of}
use Rattle.overloads.specs.Blocks.{block_steps}
use Rattle.overloads.proofs.Blocks.{times-few}
use native.Mathlib.Omega.{arith}
use Rattle.overloads.proofs.search.Search.block_steps.Goals as goal

pub overflow_sub-result : goal.overflow_sub-result
overflow_sub-result c = omega (arith, times-few c.args.self.now.lag (network_of c.args.self.now.pair.now.network) (plan_of c.args.self.now.pair.now.plan) c.args.self.now.lag_in.1)

pub returns : goal.returns
unfolding block_steps
returns c = cc
