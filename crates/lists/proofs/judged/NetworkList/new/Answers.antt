-- `lists::judged::NetworkList::new` meets its contract.
use Rattle.lists.proofs.Positions.{head_in}
use Rattle.lists.proofs.judged.NetworkList.new.Goals as goal

pub of-requires : goal.of-requires
of-requires c = head_in _ c.requires.ranges.sized.size
