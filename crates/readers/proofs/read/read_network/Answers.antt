-- `readers::read::read_network` meets its contract.
use Rattle.lists.specs.Lists.{head_size, per_link, per_flow, link_at, flow_at, tunnel_at, most_network}
use borrow.Author.Rules.{rules}
use Rattle.std.proofs.Common.{rules}
use Rattle.readers.proofs.read.read_network.Goals as goal

pub read_text-requires : goal.read_text-requires
unfolding most_network head_size per_link per_flow link_at flow_at tunnel_at
read_text-requires c = search rules
