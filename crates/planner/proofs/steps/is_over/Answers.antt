-- `planner::steps::is_over` meets its contract: the two comparisons are the two bounds of the rule.
use Rattle.planner.proofs.Searching.{over_first, over-second}
use Rattle.planner.proofs.steps.is_over.Goals as goal

pub returns-then-room-protected : goal.returns-then-room-protected
returns-then-room-protected c = over_first _ _ _ _ _ _ c.capacity.ensures.value c.if-room-protected.true

pub returns-else-room-protected : goal.returns-else-room-protected
returns-else-room-protected c = over-second _ _ _ _ _ _ c.capacity.ensures.value _ c.overrun.ensures.value c.if-room-protected.false
