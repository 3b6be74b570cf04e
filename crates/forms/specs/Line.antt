-- The lines of a text, remarks among them, the part of a line that is its value, and the number that the part is.
use Rattle.std.specs.Prelude.{ℕ, ◌+◌, ◌*◌, ◌-◌, Bool, cond, not, ◌&&◌, ◌||◌, length, get_or, take, eqb, leb, ltb}
use mathlib.Core.List.{List, [], ◌∷◌, flat_map}
use Rattle.std.proofs.Math.Option.{Option, none, some}
use Rattle.forms.specs.Keys.{prefix_of}
use Rattle.forms.specs.Form.{line, is_hex, has_remarks}
use Rattle.forms.specs.declared.form.Form.{Form}
use Rattle.forms.specs.declared.form.Key.{Key}
use Rattle.forms.specs.declared.form.Range.{Range}

-- a byte put before the first of some lines
unfoldable pub on_first : ℕ → List (List ℕ) → List (List ℕ)
on_first b [] = (b ∷ []) ∷ []
on_first b (l ∷ ls) = (b ∷ l) ∷ ls

-- the lines of a text, each with its line feed; the last may lack it
unfoldable pub lines : List ℕ → List (List ℕ)
unfolding on_first
lines [] = []
lines (b ∷ t) = cond (eqb b 10) ((b ∷ []) ∷ lines t) (on_first b (lines t))

-- what stands before the line feed that ends a line; nothing where none does
unfoldable pub before_feed : List ℕ → List ℕ
before_feed l = cond (eqb (get_or l (length l - 1) 0) 10) (take (length l - 1) l) []

-- ---- remarks

-- "A line of either text that begins with `#` is a remark": a comment line
abbrev pub is_remark : Form → List ℕ → Bool
is_remark form l = has_remarks form && eqb (get_or l 0 0) 35

-- "up to 80 bytes before its line feed": at least its `#` stands there, unless the text's end cuts it
abbrev pub most_in_remark : ℕ
most_in_remark = 80

unfoldable pub fits : List ℕ → Bool
unfolding before_feed
fits l = leb 1 (length (before_feed l)) && leb (length (before_feed l)) most_in_remark

-- "at most 32 in a text": a remark is passed over, after so many others
abbrev pub most_remarks : ℕ
most_remarks = 32

abbrev pub is_passed : ℕ → List ℕ → Bool
is_passed before l = ltb before most_remarks && fits l

-- a text without its remarks
unfoldable pub plain : Form → List ℕ → List ℕ
unfolding lines flat_map
plain form text = flat_map (λ l. cond (is_remark form l) [] l) (lines text)

-- ---- values

-- what stands in a line between a prefix and the line feed; nothing where the line does not have them
unfoldable pub value_part : List ℕ → List ℕ → List ℕ
unfolding before_feed
value_part [] l = before_feed l
value_part (k ∷ ks) [] = []
value_part (k ∷ ks) (b ∷ l) = cond (eqb b k) (value_part ks l) []

-- the value of a digit, in lower case; 16 for a byte that is none
unfoldable pub digit_of : ℕ → ℕ
digit_of b = cond (ltb b 48) 16 (cond (leb b 57) (b - 48) (cond (ltb b 97) 16 (cond (leb b 102) (b - 87) 16)))

-- the number that v followed by some digits is
unfoldable pub number_from : ℕ → ℕ → List ℕ → Option ℕ
unfolding digit_of
number_from base v [] = some v
number_from base v (b ∷ d) = cond (ltb (digit_of b) base) (number_from base (v * base + digit_of b) d) none

-- "decimal, 1 to 10 digits, no leading zero except `0` itself"
unfoldable pub decimal_of : List ℕ → Option ℕ
unfolding number_from
decimal_of d = cond (leb 1 (length d) && (leb (length d) 10 && (eqb (length d) 1 || not (eqb (get_or d 0 0) 48)))) (number_from 10 0 d) none

-- "exactly 16 lower-case hexadecimal digits"
unfoldable pub hex_of : List ℕ → Option ℕ
unfolding number_from
hex_of d = cond (eqb (length d) 16) (number_from 16 0 d) none

-- the number that a line has, by its key and range; none where the line is "not in its form, or text stops inside it"
abbrev pub line_value : Key → Range → List ℕ → Option ℕ
line_value k r line = cond (is_hex r) (hex_of (value_part (prefix_of k) line)) (decimal_of (value_part (prefix_of k) line))
