-- Runs: any calls, one after the other.
use Rattle.std.specs.Prelude.{ℕ, suc, cond, eqb}
use mathlib.Core.List.{List, [], ◌∷◌, flat_map}
use Rattle.model.specs.Outcome.{Outcome, good, refused}
use Rattle.desks.specs.State.{Job, State, Acceptance, Handed, submitted, handed_out}

pub data Call : Type 0 where
  submit : (desk tag : ℕ) → Call
  hand_out : Call

-- a call with its answer
pub data Event : Type 0 where
  submission : (desk tag : ℕ) → Outcome Acceptance → Event
  hand : Outcome Handed → Event

abbrev pub event : Call → State → Event
event (submit desk tag) s = submission desk tag (submitted desk tag s).answer
event hand_out s = hand (handed_out s).answer

abbrev pub next : Call → State → State
next (submit desk tag) s = (submitted desk tag s).state
next hand_out s = (handed_out s).state

-- the calls with their answers, from a state on, and the state after them
unfoldable pub log : State → List Call → List Event
log s [] = []
log s (c ∷ calls) = event c s ∷ log (next c s) calls

unfoldable pub after : State → List Call → State
after s [] = s
after s (c ∷ calls) = after (next c s) calls

-- the job of desk d that was accepted, or handed out, if there is one
abbrev pub accepted_in : ℕ → Event → List Job
accepted_in d (submission desk tag (good a)) = cond (eqb d desk) (record { number = a.number; tag = tag } ∷ []) []
accepted_in d (submission desk tag (refused c place second)) = []
accepted_in d (hand answer) = []

abbrev pub handed_in : ℕ → Event → List Job
handed_in d (submission desk tag answer) = []
handed_in d (hand (good h)) = cond (eqb d h.desk) (h.job ∷ []) []
handed_in d (hand (refused c place second)) = []

-- a call of a desk: the tag that it submitted, and whether this was accepted
pub data Attempt : Type 0 where
  taken declined : (tag : ℕ) → Attempt

abbrev pub attempt_in : ℕ → Event → List Attempt
attempt_in d (submission desk tag (good a)) = cond (eqb d desk) (taken tag ∷ []) []
attempt_in d (submission desk tag (refused c place second)) = cond (eqb d desk) (declined tag ∷ []) []
attempt_in d (hand answer) = []

-- the job of any desk that was handed out
abbrev pub out_in : Event → List Handed
out_in (submission desk tag answer) = []
out_in (hand (good h)) = h ∷ []
out_in (hand (refused c place second)) = []

-- what the events of a log give, in their order
abbrev pub accepted : ℕ → List Event → List Job
accepted d = flat_map (accepted_in d)

abbrev pub handed : ℕ → List Event → List Job
handed d = flat_map (handed_in d)

abbrev pub attempts : ℕ → List Event → List Attempt
attempts d = flat_map (attempt_in d)

abbrev pub out : List Event → List Handed
out = flat_map out_in

-- how many hand-outs are called
unfoldable pub hand_outs : List Call → ℕ
hand_outs [] = 0
hand_outs (submit desk tag ∷ calls) = hand_outs calls
hand_outs (hand_out ∷ calls) = suc (hand_outs calls)
