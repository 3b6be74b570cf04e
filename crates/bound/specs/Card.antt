-- The card that operators carry.
use Rattle.std.specs.Prelude.{ℕ, ◌-◌, ◌≡◌, true, List, length, get_or}
use Rattle.model.specs.Limits.{least_share}
use Rattle.model.specs.Even.{ceil_div}
use Rattle.bound.specs.Bound.{is_share}

-- "a card that lists ceil(1000/scratch) - 1 for each scratch from 20 to 500, 481 entries"
pub record IsCard (card : List ℕ) : Type 0 where
  pub entries : length card ≡ 481
  pub rule : (scratch : ℕ) → is_share scratch ≡ true → get_or card (scratch - least_share) 0 ≡ ceil_div 1000 scratch - 1
