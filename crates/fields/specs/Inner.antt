-- What the inner functions of the code ask for. No promise cites these.
use Rattle.std.specs.Prelude.{ℕ, ◌<◌, List, get_or}
use Rattle.fields.specs.Columns.{numbers}

-- five numbers that fit the columns of a line
pub record Fits (a b c d e : ℕ) : Type 0 where
  pub first : a < 1000000
  pub second : b < 1000000
  pub third : c < 10000000000
  pub fourth : d < 10000000000
  pub fifth : e < 10000000000

-- a row of five, as the code has them
abbrev pub Fit : List ℕ → Type 0
Fit xs = Fits (get_or xs 0 0) (get_or xs 1 0) (get_or xs 2 0) (get_or xs 3 0) (get_or xs 4 0)

abbrev pub in_row : List ℕ → List (List ℕ)
in_row xs = numbers (get_or xs 0 0) (get_or xs 1 0) (get_or xs 2 0) (get_or xs 3 0) (get_or xs 4 0)
