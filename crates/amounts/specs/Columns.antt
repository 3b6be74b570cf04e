-- What a link can carry, and columns: lists whose first n numbers are those of a function of tunnels, or of links.
use Rattle.std.specs.Prelude.{ℕ, ◌+◌, ◌*◌, ◌/◌, ◌<◌, ◌≡◌, List, get_or, length}
use Rattle.model.specs.Limits.{most_links}
use Rattle.model.specs.Net.{Net}
use Rattle.amounts.specs.declared.columns.Bounds.{Bounds}

pub record Holds (xs : List ℕ) (n : ℕ) (f : ℕ → ℕ) : Type 0 where
  pub each : (t : ℕ) → t < n → get_or xs t 0 ≡ f t

-- what a link can carry of protected traffic, and of all: a load, which is whole, is over (1000 + overrun) thousandths of the capacity exactly if it is over the whole part of these
abbrev pub capacity : Net → ℕ → ℕ → ℕ
capacity N parts l = parts * N.cap l

abbrev pub raised : Net → ℕ → ℕ → ℕ
raised N parts l = (1000 + N.overrun) * capacity N parts l / 1000

-- the bounds of a link, and those of the links in their order
abbrev pub bounds_of : Net → ℕ → ℕ → Bounds
bounds_of N parts l = record { protected = capacity N parts l; all = raised N parts l }

abbrev pub bounds_at : List Bounds → ℕ → Bounds
bounds_at s l = get_or s l (record { protected = 0; all = 0 })

pub record AllBounds (N : Net) (parts : ℕ) (n : ℕ) (bounds : List Bounds) : Type 0 where
  pub size : length bounds ≡ most_links
  pub each : (l : ℕ) → l < n → bounds_at bounds l ≡ bounds_of N parts l
