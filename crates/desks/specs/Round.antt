-- The round, and how many jobs go before one that waits. Paper 02, (iv) and (ix).
use Rattle.std.specs.Prelude.{ℕ, ◌+◌, ◌-◌, ◌%◌, min, Bool, cond, not, ltb, eqb}
use Rattle.model.specs.Sum.{sum_over}

-- "going round from the desk after the last one served": the desk that comes k-th, counted from 0
unfoldable pub in_round : ℕ → ℕ → ℕ
in_round last k = (last + 1 + k) % 8

-- and where a desk comes: of these two each undoes the other (`round-place`, `place-round`)
unfoldable pub place_in_round : ℕ → ℕ → ℕ
place_in_round last desk = (desk + 8 - (last + 1) % 8) % 8

-- the turns of another desk before a job that has p older ones of its desk: "p + 1 if it comes earlier in the round, p if later"
unfoldable pub turns : ℕ → ℕ → ℕ → ℕ → ℕ
turns last desk p other = cond (ltb (place_in_round last other) (place_in_round last desk)) (p + 1) p

-- "each other desk"
abbrev pub other_than : ℕ → ℕ → Bool
other_than desk other = not (eqb other desk)

-- "its own p older jobs, and from each other desk the lesser of its waiting jobs and" its turns
unfoldable pub jobs_before : (ℕ → ℕ) → ℕ → ℕ → ℕ → ℕ
jobs_before waiting last desk p = p + sum_over 8 (other_than desk) (λ other. min (waiting other) (turns last desk p other))
