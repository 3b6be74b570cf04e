-- `judges::ranges::is_network` meets its contract.
use Rattle.judges.proofs.InRange.{decides-no, whole-head}
use Rattle.judges.proofs.ranges.is_network.Goals as goal

pub returns-else-network_head_in : goal.returns-else-network_head_in
returns-else-network_head_in c = rw c.if-network_head_in.false (decides-no (λ w. c.network_head_in.ensures.no c.if-network_head_in.false (whole-head _ w)))
