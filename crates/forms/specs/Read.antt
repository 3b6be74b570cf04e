-- What a text is read as, and what a list is judged to be: a walk over the lines or the numbers, by the form, and then the sums.
use Rattle.std.specs.Prelude.{ℕ, zero, suc, ◌+◌, cond, List, [], ◌∷◌, ◌++◌, ltb}
use Rattle.std.proofs.Math.Option.{Option, none, some, Option-elim}
use Rattle.model.specs.Outcome.{Outcome, good, refused, unless, and_then}
use Rattle.model.specs.declared.Cause.TheVariants.{Malformed as malformed, OutOfRange as out_of_range, Missing as missing, MissedRate as missed_rate}
use Rattle.model.specs.Rule as rule
use Rattle.lists.specs.Lists.{network_of}
use Rattle.forms.specs.Line.{lines, line_value, is_remark, fits, is_passed, plain}
use Rattle.forms.specs.Form.{Field, field_of, admits_of, second_of}
use Rattle.forms.specs.declared.form.Form.{Form}
use Rattle.forms.specs.declared.form.Form.TheVariants.{Network, Plan, Rules}
use Rattle.std.specs.declared.option.Option.TheVariants.{None, Some}
use Rattle.forms.specs.declared.form.Key.{Key}
use Rattle.forms.specs.declared.form.Range.{Range}

-- by cases on a field
abbrev pub on_field : {A : Type 0} → Field → A → (Key → Range → A) → A
on_field None a f = a
on_field (Some x) a f = f x.key x.range

-- "lines are judged one after the other", "each for 3, then 1, then 2": the items that are left, of which the first has the place n,
-- after the numbers that are done
unfoldable pub walk : {X : Type 0} → (Key → Range → X → Option ℕ) → Form → ℕ → List ℕ → List X → Outcome (List ℕ)
walk value form n done [] = on_field (field_of form done) (good done) (λ k r. refused missing n (second_of form))
walk value form n done (x ∷ xs) =
    on_field (field_of form done) (refused missing n (second_of form)) (λ k r.
    Option-elim (value k r x) (refused malformed n (second_of form)) (λ v.
    cond (admits_of r v) (walk value form (n + 1) (done ++ (v ∷ [])) xs) (refused out_of_range n (second_of form))))

-- ---- the lines of a text: "The reading of a line now yields the next real line."

-- "In texts, the places of refusals 1 to 3 count remarks as lines": the number among some lines of the real line n, both from 1 on
unfoldable pub number_in : Form → List (List ℕ) → ℕ → ℕ
number_in form [] n = n
number_in form (l ∷ ls) zero = zero
number_in form (l ∷ ls) (suc n) = suc (number_in form ls (cond (is_remark form l) (suc n) n))

-- an outcome, the place of its refusal moved
abbrev pub moved : (ℕ → ℕ) → Outcome (List ℕ) → Outcome (List ℕ)
moved f (good l) = good l
moved f (refused c place second) = refused c (f place) second

-- the number of the first remark that is not in order, of lines of which the first has the number n, after so many remarks
unfoldable pub first_bad : Form → ℕ → ℕ → List (List ℕ) → Option ℕ
unfolding fits
first_bad form n before [] = none
first_bad form n before (l ∷ ls) =
    cond (is_remark form l) (cond (is_passed before l) (first_bad form (n + 1) (before + 1) ls) (some n)) (first_bad form (n + 1) before ls)

-- "Longer remarks, or a 33rd, meet refusal 1": unless an earlier line is refused
abbrev pub or_earlier : ℕ → Option ℕ → Outcome (List ℕ) → Outcome (List ℕ)
or_earlier s none o = o
or_earlier s (some n) (good l) = refused malformed n s
or_earlier s (some n) (refused c place second) = cond (ltb place n) (refused c place second) (refused malformed n s)

-- "Lines count from 1"
unfoldable pub read_lines : Form → List ℕ → Outcome (List ℕ)
unfolding walk lines plain number_in first_bad
read_lines form text = or_earlier (second_of form) (first_bad form 1 0 (lines text)) (moved (number_in form (lines text)) (walk line_value form 1 [] (lines (plain form text))))

-- ---- the numbers of a list: "a number's position standing for its line"

unfoldable pub judge_numbers : Form → List ℕ → Outcome (List ℕ)
unfolding walk
judge_numbers form l = walk (λ k r v. some v) form 1 [] l

-- "then 4 (lowest flow, old before new)": "a flow's amounts miss its rate | 4 | flow; 0 old, 1 new"
unfoldable pub add_up : Form → List ℕ → Outcome (List ℕ)
add_up Network l = unless missed_rate (rule.missed_rate (network_of l)) (good l)
add_up Plan l = good l
add_up Rules l = good l

-- ---- what a text is read as, and what a list is judged to be

abbrev pub read_text : Form → List ℕ → Outcome (List ℕ)
read_text form text = and_then (read_lines form text) (add_up form)

abbrev pub judge_list : Form → List ℕ → Outcome (List ℕ)
judge_list form l = and_then (judge_numbers form l) (add_up form)
