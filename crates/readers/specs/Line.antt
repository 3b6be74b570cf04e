-- The line reader's steps, each over what is left of the text.
use Rattle.std.specs.Prelude.{◌≡◌, ℕ, suc, ◌+◌, ◌^◌, ◌<◌, ◌≤◌, Bool, cond, ◌⊎◌, List, [], ◌∷◌, ◌++◌, length, take, drop, ◌==◌, slice_index, Option, None, Some}
use Rattle.std.proofs.Math.Option as maths
use Rattle.forms.specs.Line.{before_feed, fits, is_passed, digit_of, number_from, decimal_of, hex_of}
use denote.Ref.{Bor}
use Rattle.readers.specs.declared.line.Value.{Value}

-- how many bytes the first line has, with its line feed, and the line
unfoldable pub line_len : List ℕ → ℕ
line_len [] = 0
line_len (b ∷ t) = cond (b == 10) 1 (suc (line_len t))

abbrev pub first_line : List ℕ → List ℕ
first_line t = take (line_len t) t

-- how many bytes stand before the first line feed
unfoldable pub bytes_before : List ℕ → ℕ
bytes_before [] = 0
bytes_before (b ∷ t) = cond (b == 10) 0 (suc (bytes_before t))

-- what stands in a text after a key, or nothing, since the key does not stand first
abbrev pub AfterKey : List ℕ → List ℕ → Option (Bor (List ℕ)) → Type 0
AfterKey key text None = (rest : List ℕ) → text ≡ key ++ rest → ⊥
AfterKey key text (Some rest) = text ≡ key ++ rest.now

-- what stands before the first line feed
abbrev pub unfed : List ℕ → List ℕ
unfed t = take (bytes_before t) t

-- the first i bytes are digits of a base, none of them a line feed, and v is their number
pub record DigitsTo (base : ℕ) (text : List ℕ) (v i : ℕ) : Type 0 where
  pub within : i ≤ length text
  pub below : v < base ^ i
  pub before : bytes_before text ≡ i + bytes_before (drop i text)
  pub number : number_from base 0 (unfed text) ≡ number_from base v (unfed (drop i text))

-- decimal digits: all that stand first, or 10 of them
pub record Leading (text : List ℕ) (v : ℕ) (part : List ℕ) : Type 0 where
  pub first : part ≡ take (length part) text
  pub digits : DigitsTo 10 text v (length part)
  pub few : length part ≤ 10
  pub ends : length part < length text → (10 ≤ digit_of (slice_index text (length part))) ⊎ (10 ≤ length part)

-- what stands before the line feed that ends the first line
abbrev pub value_first : List ℕ → List ℕ
value_first text = before_feed (first_line text)

-- the number that some digits are, in hexadecimal or in decimal
abbrev pub number_of : Bool → List ℕ → maths.Option ℕ
number_of hex d = cond hex (hex_of d) (decimal_of d)

-- what the line reader hands back of a value: its digits and their number, or nothing
abbrev pub Parsed : Bool → List ℕ → Option Value → Type 0
Parsed hex value None = number_of hex value ≡ maths.none
Parsed hex value (Some d) = (number_of hex value ≡ maths.some d.number) × (d.digits.now ≡ value)

-- how many bytes the remark that stands first has, after so many others
unfoldable pub remark_len : List ℕ → ℕ → Option ℕ
unfolding line_len fits
remark_len text before = cond (is_passed before (first_line text)) (Some (line_len text)) None
