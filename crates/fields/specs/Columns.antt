-- Lines of fields: "right-aligned in columns of 6, 6, 10, 10 and 10".
use Rattle.std.specs.Prelude.{ℕ, ◌-◌, List, [], ◌∷◌, ◌++◌, length, replicate}
use Rattle.forms.specs.Write.{digits_in, width_of}

-- a field at the right of a column, after spaces: a heading's word and the digits of a number alike
unfoldable pub right_in : ℕ → List ℕ → List ℕ
right_in width s = replicate (width - length s) 32 ++ s

-- fields in columns of the given widths, and a line feed
unfoldable pub in_columns : List ℕ → List (List ℕ) → List ℕ
in_columns [] fields = 10 ∷ []
in_columns (w ∷ ws) [] = 10 ∷ []
in_columns (w ∷ ws) (s ∷ fields) = right_in w s ++ in_columns ws fields

unfoldable pub line : List (List ℕ) → List ℕ
unfolding in_columns
line fields = in_columns (6 ∷ 6 ∷ 10 ∷ 10 ∷ 10 ∷ []) fields

-- "Each line has 42 characters and a line feed."
abbrev pub line_size : ℕ
line_size = 43

-- a number as it is printed
unfoldable pub digits : ℕ → List ℕ
digits v = digits_in 10 (width_of v) v

-- five numbers as the fields of a line
unfoldable pub numbers : ℕ → ℕ → ℕ → ℕ → ℕ → List (List ℕ)
numbers a b c d e = digits a ∷ digits b ∷ digits c ∷ digits d ∷ digits e ∷ []
