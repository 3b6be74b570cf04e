-- What a list is written as.
use Rattle.std.specs.Prelude.{ℕ, zero, suc, ◌+◌, ◌/◌, ◌%◌, ◌^◌, cond, List, [], ◌∷◌, ◌++◌, ltb}
use Rattle.model.specs.Outcome.{Outcome, good}
use Rattle.forms.specs.Keys.{prefix_of}
use Rattle.forms.specs.Form.{Field, field_of, is_hex}
use Rattle.model.specs.Outcome.{and_then}
use Rattle.forms.specs.Read.{judge_list}
use Rattle.forms.specs.declared.form.Form.{Form}
use Rattle.std.specs.declared.option.Option.TheVariants.{None, Some}
use Rattle.forms.specs.declared.form.Range.{Range}

-- the byte of a digit, in lower case
abbrev pub digit_char : ℕ → ℕ
digit_char x = cond (ltb x 10) (48 + x) (87 + x)

-- the last n digits of a number
unfoldable pub digits_in : ℕ → ℕ → ℕ → List ℕ
digits_in base zero v = []
digits_in base (suc n) v = digit_char (v / base ^ n % base) ∷ digits_in base n v

-- how many decimal digits a number below 10^10 has
unfoldable pub width_from : ℕ → ℕ → ℕ → ℕ
width_from zero n v = n
width_from (suc f) n v = cond (ltb v (10 ^ n)) n (width_from f (suc n) v)

unfoldable pub width_of : ℕ → ℕ
unfolding width_from
width_of v = width_from 9 1 v

-- "exactly 16 lower-case hexadecimal digits", or decimal with "no leading zero except `0` itself"
abbrev pub value_digits : Range → ℕ → List ℕ
value_digits r v = cond (is_hex r) (digits_in 16 16 v) (digits_in 10 (width_of v) v)

-- "Each line is a key, `=`, a value and one line feed (byte 10)."
abbrev pub line_of : Field → ℕ → List ℕ
line_of None v = []
line_of (Some x) v = prefix_of x.key ++ (value_digits x.range v ++ (10 ∷ []))

-- the lines of the numbers that are left, after those that are done
unfoldable pub render_from : Form → List ℕ → List ℕ → List ℕ
render_from form done [] = []
render_from form done (v ∷ vs) = line_of (field_of form done) v ++ render_from form (done ++ (v ∷ [])) vs

unfoldable pub render : Form → List ℕ → List ℕ
unfolding render_from
render form l = render_from form [] l

-- "Writers .. take lists and judge them by the same rules": the text of a list that is judged good, or its refusal
abbrev pub write_text : Form → List ℕ → Outcome (List ℕ)
write_text form l = and_then (judge_list form l) (λ g. good (render form g))
