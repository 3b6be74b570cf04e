-- A run in numbers: each call three, each answer four.
use Rattle.std.specs.Prelude.{ℕ, ◌+◌, ◌*◌, ◌/◌, ◌%◌, min, cond, eqb, length, get_or}
use mathlib.Core.List.{List, flat_map}
use Rattle.model.specs.Listed.{listed}
use Rattle.desks.specs.Run.{Call, submit, hand_out, Event, submission, hand}
use Rattle.desks.specs.Seen.{told_acceptance, told_job}
use Rattle.desks.specs.Four.{four_of_acceptance, four_of_job}
use Rattle.desk_calls.specs.declared.calls.Answer.{Answer}
use Rattle.desk_calls.specs.declared.calls.Answer.TheVariants.{Submission, HandOut}

-- the call whose numbers begin at a place. Kind 0: a desk submits a tag, of which 32 bits are read; any other kind: a hand-out
unfoldable pub call_in : List ℕ → ℕ → Call
call_in l at = cond (eqb (get_or l at 0) 0) (submit (get_or l (at + 1) 0) (get_or l (at + 2) 0 % 4294967296)) hand_out

-- the first n calls
abbrev pub calls_of : ℕ → List ℕ → List Call
calls_of n l = listed n (λ i. call_in l (3 * i))

abbrev pub four_of : Event → List ℕ
four_of (submission desk tag answer) = four_of_acceptance (told_acceptance answer)
four_of (hand answer) = four_of_job (told_job answer)

-- the answers of a log
abbrev pub answers_of : List Event → List ℕ
answers_of = flat_map four_of

-- the answers of the code, one after the other
abbrev pub four_of_answer : Answer → List ℕ
four_of_answer (Submission a) = four_of_acceptance a
four_of_answer (HandOut a) = four_of_job a

abbrev pub in_numbers : List Answer → List ℕ
in_numbers = flat_map four_of_answer

-- the answers and the calls that there is room for
abbrev pub room_for : List ℕ → List ℕ → ℕ
room_for calls answers = min (length calls / 3) (length answers / 4)
