-- Sets of links, or of switches, as numbers.
use Rattle.std.specs.Prelude.{ℕ, ◌/◌, ◌%◌, ◌^◌, Bool, eqb}

-- "bit l, of value 2^l, is set when the tunnel crosses link l"
abbrev pub in_set : ℕ → ℕ → Bool
in_set via l = eqb (via / 2 ^ l % 2) 1
