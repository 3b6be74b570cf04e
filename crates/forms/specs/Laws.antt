-- What reading, judging and writing have to do with one another, for each form. The proofs are in proofs/Round.antt and
-- proofs/Remarks.antt.
use Rattle.std.specs.Prelude.{ℕ, ◌≤◌, ◌≡◌, false, List, [], length, take}
use Rattle.std.proofs.Math.Option.{none}
use Rattle.model.specs.Outcome.{good}
use Rattle.lists.specs.Answers.{with_room}
use Rattle.forms.specs.Line.{lines, line_value, plain}
use Rattle.forms.specs.Form.{has_remarks}
use Rattle.forms.specs.Read.{walk, number_in, moved, first_bad, read_lines, judge_numbers, read_text, judge_list}
use Rattle.forms.specs.Write.{render, write_text}
use Rattle.forms.specs.declared.form.Form.{Form}

-- ---- remarks

-- the remarks of a text are in order
abbrev pub InOrder : Form → List ℕ → Type 0
InOrder form text = first_bad form 1 0 (lines text) ≡ none

pub record Remarked (form : Form) : Type 0 where
  -- without remarks a text is read as it was before there were any
  pub unremarked : (text : List ℕ) → plain form text ≡ text → read_lines form text ≡ walk line_value form 1 [] (lines text)
  -- all texts of a form that has no remarks are such texts
  pub none_remarks : has_remarks form ≡ false → (text : List ℕ) → plain form text ≡ text
  -- and so is what remarks are taken from
  pub plain_again : (text : List ℕ) → plain form (plain form text) ≡ plain form text
  -- where its remarks are in order a text is read as the plain text; a refusal names the line by its number in the text
  pub passed_over : (text : List ℕ) → InOrder form text → read_lines form text ≡ moved (number_in form (lines text)) (read_lines form (plain form text))

-- ---- the file form

-- a text follows the file form: its remarks are in order, and without them it is what a list that is judged good is written as
pub record Follows (form : Form) (text : List ℕ) : Type 0 where
  pub ordered : InOrder form text
  pub list : List ℕ
  pub judged : judge_list form list ≡ good list
  pub written : render form list ≡ plain form text

-- "Both read at most 65,536 bytes of a text; no valid text is longer."
abbrev pub most_bytes : ℕ
most_bytes = 65536

-- a text is read exactly when it follows the file form
pub record FileForm (form : Form) : Type 0 where
  -- the numbers that a text's lines give are judged good as a list, with the same verdict on the sums
  pub same_verdict : (text l : List ℕ) → read_lines form text ≡ good l → (judge_numbers form l ≡ good l) × (read_text form text ≡ judge_list form l)
  -- what is read follows the form, and what follows the form is read
  pub follows : (text l : List ℕ) → read_text form text ≡ good l → Follows form text
  pub read : (text : List ℕ) (f : Follows form text) → read_text form text ≡ good f.list
  -- and no such text is longer than a program reads, remarks included; what a program does not read of any text changes no answer
  pub short : (text l : List ℕ) → read_text form text ≡ good l → length text ≤ most_bytes
  pub first_bytes : (text : List ℕ) → read_text form (take most_bytes text) ≡ read_text form text

-- the two round trips, over what the operations come to with the room that is lent to each
pub record RoundTrip (form : Form) : Type 0 where
  -- for every text that a reader takes, writing the list that it gives yields that text: "a text with remarks comes back without
  -- them, and others as today"
  pub text_again : (text l : List ℕ) (room space : ℕ) → with_room room (read_text form text) ≡ good l → length (plain form text) ≤ space
      → with_room space (write_text form l) ≡ good (plain form text)
  -- for every good list with room, reading what the writer writes yields the list
  pub list_again : (l text : List ℕ) (space room : ℕ) → with_room space (write_text form l) ≡ good text → length l ≤ room
      → with_room room (read_text form text) ≡ good l
