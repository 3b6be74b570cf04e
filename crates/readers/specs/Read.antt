-- What the readers' code comes to, line by line.
use Rattle.std.specs.Prelude.{◌≡◌, ℕ, ◌+◌, ◌≤◌, Bool, false, cond, not, List, length, take, drop, ◌==◌, nat_lt, Option, None, Some}
use Rattle.std.proofs.Math.Option.{Option-elim}
use Rattle.model.specs.Outcome.{Outcome, good, refused}
use Rattle.forms.specs.Line.{lines, line_value}
use Rattle.lists.specs.Lists.{at, network_sizes}
use Rattle.lists.specs.declared.Network as sizes
use Rattle.model.specs.declared.Cause.TheVariants.{Malformed, OutOfRange, Missing}
use Rattle.forms.specs.Form.{Field, network_lines, field_of, admits_of, most_of, Sound}
use Rattle.forms.specs.Turns.{walk_lines}
use Rattle.forms.specs.declared.form.Form.{Form}
use Rattle.forms.specs.declared.form.Form.TheVariants.{Network, Plan, Rules}
use Rattle.forms.specs.declared.form.Line.{Line}
use Rattle.readers.specs.Line.{line_len, first_line}
use Rattle.readers.specs.declared.read.Taken.{Taken}
use Rattle.readers.specs.declared.read.Taken.TheVariants.{Number, Stop, Ended}
use Rattle.readers.specs.declared.read.Stopped.{Stopped}

-- what the first line of the rest of a text gives: "each for 3, then 1, then 2"
unfoldable pub taken_of : Line → List ℕ → Taken
taken_of l text =
    cond (length text == 0) (Stop Missing)
    (Option-elim (line_value l.key l.range (first_line text)) (Stop Malformed) (λ v. cond (admits_of l.range v) (Number v (line_len text)) (Stop OutOfRange)))

-- the same by what the form has there: where it ends, the text ends too, or a line is too many
abbrev pub next_of : Field → List ℕ → Taken
next_of None text = cond (length text == 0) Ended (Stop Missing)
next_of (Some l) text = taken_of l text

-- ---- the head of a network is read first, then its body by the sizes that the head says

-- whether the numbers so far are of a head that has more
abbrev pub in_head : List ℕ → Bool
in_head l = nat_lt (length l) (length (network_lines (at l 0)))

-- what is known of the body: nothing, or the sizes
abbrev pub Body : Type 0
Body = Option sizes.Network

abbrev pub body_of : Form → List ℕ → Body
body_of Network l = cond (in_head l) None (Some (network_sizes l))
body_of Plan l = None
body_of Rules l = None

-- that what is known is so
abbrev pub Fits : Form → Body → List ℕ → Type 0
Fits Network None l = Unit {0}
Fits Network (Some n) l = (in_head l ≡ false) × (n ≡ network_sizes l)
Fits Plan b l = Unit {0}
Fits Rules b l = Unit {0}

-- whether the head has been read since
abbrev pub head_read : Form → Body → List ℕ → Bool
head_read Network None l = not (in_head l)
head_read Network (Some n) l = false
head_read Plan b l = false
head_read Rules b l = false

-- what the form has next, as far as it is known: nothing where the head has been read since
abbrev pub field_by : Form → Body → List ℕ → Field
field_by form b l = cond (head_read form b l) None (field_of form l)

abbrev pub NoNumber : Taken → Type 0
NoNumber (Number v n) = ⊥
NoNumber (Stop cause) = Unit {0}
NoNumber Ended = Unit {0}

-- so many numbers of a list are read, and the line after them begins at `at`
pub record Begun (form : Form) (text vals : List ℕ) (count at : ℕ) : Type 0 where
  pub within : at ≤ length text
  pub few : count ≤ most_of form
  pub sound : Sound form (take count vals)

-- what a text is read as from there on, after so many remarks
abbrev pub onward : Form → List ℕ → List ℕ → ℕ → ℕ → ℕ → Outcome (List ℕ)
onward form text vals count at remarks = walk_lines form (count + remarks + 1) remarks (take count vals) (lines (drop at text))

-- lines are read on from there, up to the first that gives no number or to the end of a head; each takes a byte or more
pub record ReadOn (form : Form) (body : Body) (text vals : List ℕ) (count at : ℕ) (after : List ℕ) (r : Stopped) : Type 0 where
  pub begun : Begun form text after r.count r.at
  pub more : count ≤ r.count
  pub kept : take count after ≡ take count vals
  pub later : r.count + at ≤ r.at + count
  pub gives : next_of (field_by form body (take r.count after)) (drop r.at text) ≡ r.taken
  pub stops : NoNumber r.taken
  pub same : (remarks : ℕ) → onward form text vals count at remarks ≡ onward form text after r.count r.at remarks

-- the numbers that were read stand first in a list
abbrev pub Holds : Outcome (List ℕ) → List ℕ → Type 0
Holds (good l) vals = take (length l) vals ≡ l
Holds (refused c place second) vals = Unit {0}
