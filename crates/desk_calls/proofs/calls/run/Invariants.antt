use Rattle.std.proofs.Common.{◌≡◌, ◌++◌, drop, take, map}
use Rattle.desks.specs.State.{empty}
use Rattle.desks.specs.Run.{after, log}
use Rattle.desks.specs.Seen.{seen}
use Rattle.desk_calls.specs.Calls.{call_of, told}
use Rattle.desk_calls.proofs.calls.run.Given as goal

-- after i calls the state is the model's, and so are the answers
abbrev pub invariant-loop-i : goal.invariant-loop-i
invariant-loop-i l = record {
  state : seen l.desks ≡ after empty (map call_of (take l.i l.calls));
  told : l.answers ≡ map told (log empty (map call_of (take l.i l.calls))) ++ drop l.i l.fn.answers;
}
