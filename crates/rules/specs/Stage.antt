-- Staging: which tunnels go in and out in which stage.
use Rattle.std.specs.Prelude.{ℕ, zero, suc, ◌+◌, ◌-◌, ◌*◌, Bool, true, cond, not, ◌&&◌, ◌||◌, List, leb, ltb, eqb}
use Rattle.std.proofs.Math.Option.{Option, or_else}
use Rattle.model.specs.Sets.{in_set}
use Rattle.model.specs.Search.{only_if, first}
use Rattle.model.specs.Listed.{listed}
use Rattle.model.specs.Outcome.{Outcome, good, Place, unless}
use Rattle.model.specs.declared.Cause.TheVariants.{Unfit as unfit}
use Rattle.rules.specs.Rules.{Rules, keep, add, remove, is_kind, count, last_stage, usable, spare}

-- "each tunnel to add", "each to remove"
pub data Move : Type 0 where
  adds removes : Move

abbrev pub kind_of : Move → ℕ
kind_of adds = add
kind_of removes = remove

-- the stages so far: of each tunnel its stage, 0 where it has none
abbrev pub Stages : Type 0
Stages = ℕ → ℕ

-- of the tunnels to add, or to remove, those that have a stage, and those that wait for one
unfoldable pub moved : Rules → Move → Stages → ℕ → Bool
moved R m f t = is_kind R (kind_of m) t && not (eqb (f t) 0)

unfoldable pub waits : Rules → Move → Stages → ℕ → Bool
waits R m f t = is_kind R (kind_of m) t && eqb (f t) 0

-- the test passes at each number below n
unfoldable pub every : ℕ → (ℕ → Bool) → Bool
every zero p = true
every (suc n) p = every n p && p n

-- "at every switch crossed 1000 × k × (..) is at most" so many times X
unfoldable pub within : Rules → ℕ → (ℕ → ℕ) → ℕ → Bool
within R times n t = every R.switches (λ s. not (in_set (R.via t) s) || leb (1000 * last_stage R * n s) (times * spare R s))

-- a tunnel to add "goes in if at every switch crossed 1000 × k × (added so far with this one) is at most i × X"; one to remove "goes out if at some switch
-- crossed 1000 × k × (remaining with this one) exceeds (k - i) × X". One that waits to be removed is among those that remain.
unfoldable pub goes : Rules → Move → ℕ → Stages → ℕ → Bool
goes R adds i f t = within R i (λ s. count R (moved R adds f) s + 1) t
goes R removes i f t = not (within R (last_stage R - i) (count R (waits R removes f)) t)

-- the stages, where tunnel t has stage i if a test passes
unfoldable pub given : Bool → ℕ → ℕ → Stages → Stages
given b t i f u = cond (b && eqb u t) i (f u)

-- the turn of tunnel t in stage i
unfoldable pub turn : Rules → Move → ℕ → Stages → ℕ → Stages
turn R m i f t = given (waits R m f t && goes R m i f t) t i f

-- "each tunnel to add, in number order": the turns of the first n tunnels
unfoldable pub pass : Rules → Move → ℕ → Stages → ℕ → Stages
pass R m i f zero = f
pass R m i f (suc n) = turn R m i (pass R m i f n) n

-- "In stage i of 1 to k, each tunnel to add .. goes in .. Then each to remove .. goes out"
unfoldable pub stage : Rules → ℕ → Stages → Stages
stage R i f = pass R removes i (pass R adds i f R.tunnels) R.tunnels

-- the stages 1 to i, one after the other
unfoldable pub stages : Rules → ℕ → Stages
stages R zero t = 0
stages R (suc i) t = stage R (suc i) (stages R i) t

-- "18: old or new set does not fit (1000 - slack) × room / 1000": the kept tunnels and those of one other kind; nothing is rounded
unfoldable pub too_many : Rules → ℕ → ℕ → Bool
too_many R other s = ltb (usable R s) (1000 * (count R (is_kind R keep) s + count R (is_kind R other) s))

-- "place lowest switch, then second 0 old before 1 new"
unfoldable pub unfit_at : Rules → ℕ → Option Place
unfit_at R s = or_else (only_if (too_many R remove s) (record { place = s; second = 0 })) (only_if (too_many R add s) (record { place = s; second = 1 }))

abbrev pub lowest_unfit : Rules → Option Place
lowest_unfit R = first R.switches (unfit_at R)

-- "The answer lists each tunnel's stage, 0 for a kept one."
unfoldable pub staged : Rules → Outcome (List ℕ)
staged R = unless unfit (lowest_unfit R) (good (listed R.tunnels (stages R (last_stage R))))
