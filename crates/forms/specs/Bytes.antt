-- Text literals as the bytes that stand in a file.
use Rattle.std.specs.Prelude.{ℕ}
use Prim.Native.String.{String, [], ◌∷◌}
use Prim.Native.Char.{code}
use mathlib.Core.List as L

abbrev pub bytes : String → L.List ℕ
bytes [] = L.[]
bytes (c ∷ s) = L.◌∷◌ (code c) (bytes s)
