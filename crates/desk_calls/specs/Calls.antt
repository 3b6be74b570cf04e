-- The code's calls and answers, and those of the model.
use Rattle.std.specs.Prelude.{ℕ, min, List, length}
use Rattle.desks.specs.Run as model
use Rattle.desks.specs.Run.{Event, submission, hand}
use Rattle.desks.specs.Seen.{told_acceptance, told_job}
use Rattle.desk_calls.specs.declared.calls.Call.{Call}
use Rattle.desk_calls.specs.declared.calls.Call.TheVariants.{Submit, HandOut}
use Rattle.desk_calls.specs.declared.calls.Answer.{Answer}
use Rattle.desk_calls.specs.declared.calls.Answer.TheVariants as answer

-- a desk submits a tag of 32 bits, or a hand-out
abbrev pub call_of : Call → model.Call
call_of (Submit desk tag) = model.submit desk tag
call_of HandOut = model.hand_out

-- the answer of an event of a log
abbrev pub told : Event → Answer
told (submission desk tag a) = answer.Submission (told_acceptance a)
told (hand a) = answer.HandOut (told_job a)

-- the answers and the calls that there is room for
abbrev pub room_for : List Call → List Answer → ℕ
room_for calls answers = min (length calls) (length answers)
