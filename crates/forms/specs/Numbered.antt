-- The keys by number, for the inner function that gives a key's text by its number. No promise of the product cites these.
use Rattle.std.specs.Prelude.{ℕ, List, [], ◌∷◌, get_or}
use Prim.Native.String.{String}
use Rattle.forms.specs.Bytes.{bytes}

-- the one list of keys, each with its `=`: a key's number is its place here
abbrev pub keys : List String
keys =
    "net=" ∷ "scratch=" ∷ "overrun=" ∷ "links=" ∷ "flows=" ∷ "tunnels=" ∷ "cap=" ∷ "class=" ∷ "rate="
    ∷ "flow=" ∷ "via=" ∷ "old=" ∷ "new=" ∷ "plan=" ∷ "parts=" ∷ "steps=" ∷ "at="
    ∷ "rules=" ∷ "slack=" ∷ "switches=" ∷ "room=" ∷ "kind=" ∷ "next=" ∷ "unit=" ∷ "held=" ∷ []

-- what stands before the values of the key with a number; nothing past the last
abbrev pub part_of : ℕ → List ℕ
part_of k = bytes (get_or keys k "")
