-- The lines of a list, from any on.
use Rattle.std.specs.Prelude.{ℕ, zero, suc, ◌+◌, ◌≤◌, ◌<◌, ◌≡◌, false, cond, List, [], ◌++◌, length, take, get_or}
use Rattle.lists.specs.Lists.{has_next, has_held, network_of, most_numbers}
use Rattle.forms.specs.Form.{Field, line, field_of, is_hex}
use Rattle.forms.specs.Write.{width_of, line_of}
use Rattle.forms.specs.declared.form.Form.{Form}
use Rattle.forms.specs.declared.form.Range.{Range}
use Rattle.forms.specs.declared.form.Key.{Key}

-- ---- the lines of a list

-- the line of the number at i
unfoldable pub line_at : Form → List ℕ → ℕ → List ℕ
line_at form l i = line_of (field_of form (take i l)) (get_or l i 0)

-- the n lines from that on
unfoldable pub lines_from : Form → List ℕ → ℕ → ℕ → List ℕ
lines_from form l i zero = []
lines_from form l i (suc n) = lines_from form l i n ++ line_at form l (i + n)

-- how many bytes a text has, where that may be more than the room; else a number within the room
pub record Needed (size room r : ℕ) : Type 0 where
  pub short : room < r → r ≡ size
  pub fits : r ≤ room → size ≤ room

-- a number that can be written where a field stands: it has at most 10 digits if it is decimal
pub record Writable (f : Field) (v : ℕ) : Type 0 where
  pub small : (k : Key) (r : Range) → f ≡ line k r → is_hex r ≡ false → v < 10000000000

-- how many bytes of the lines are no decimal digit: of the head and, where there is one, the unit
unfoldable pub head_bytes : ℕ → ℕ
head_bytes edition = cond (has_held edition) 52 46

-- of a link's: cap and, where there is one, held
unfoldable pub link_bytes : ℕ → ℕ
link_bytes edition = cond (has_held edition) 11 5

-- of a flow's: class, rate and, where there is one, next
unfoldable pub flow_bytes : ℕ → ℕ
flow_bytes edition = cond (has_next edition) 19 13

-- ---- how many decimal digits numbers of a list have

-- a number of a list that can be written in decimal
pub record Decimal (l : List ℕ) (i : ℕ) : Type 0 where
  pub within : i < length l
  pub few : i < most_numbers
  pub small : get_or l i 0 < 10000000000

-- the first n numbers
unfoldable pub widths_of : List ℕ → ℕ → ℕ
widths_of l zero = 0
widths_of l (suc n) = widths_of l n + width_of (get_or l n 0)

-- of the first n tunnels, their flows, old and new amounts
unfoldable pub tunnel_widths : List ℕ → ℕ → ℕ
tunnel_widths l zero = 0
tunnel_widths l (suc t) =
    tunnel_widths l t
    + (width_of ((network_of l).flow t) + width_of ((network_of l).old t) + width_of ((network_of l).new t))
