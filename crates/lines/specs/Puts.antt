-- What a write leaves, and lines by what stands before their value.
use Rattle.std.specs.Prelude.{ℕ, ◌+◌, ◌≡◌, List, [], ◌∷◌, ◌++◌, length, take, drop}
use Rattle.forms.specs.Write.{digits_in, width_of}

-- a list with others in the place of those from `at` on
unfoldable pub placed : List ℕ → ℕ → List ℕ → List ℕ
placed out at s = take at out ++ (s ++ drop (at + length s) out)

-- bytes are put at a place, and the place past them is answered
pub record Puts (s : List ℕ) (at : ℕ) (out out' : List ℕ) (past : ℕ) : Type 0 where
  pub place : past ≡ at + length s
  pub bytes : out' ≡ placed out at s

-- ---- lines, by what stands before their value

abbrev pub decimal_value : ℕ → List ℕ
decimal_value v = digits_in 10 (width_of v) v ++ (10 ∷ [])

abbrev pub decimal_line : List ℕ → ℕ → List ℕ
decimal_line key v = key ++ decimal_value v

abbrev pub hex_line : List ℕ → ℕ → List ℕ
hex_line key v = key ++ (digits_in 16 16 v ++ (10 ∷ []))
