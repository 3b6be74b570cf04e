-- What the inner functions of the code ask for and give.
use Rattle.std.specs.Prelude.{ℕ, ◌≤◌, ◌<◌, ◌≡◌, List, true, leb, length}
use Rattle.std.proofs.Math.Option.{none}
use Rattle.model.specs.Limits.{most_amount}
use Rattle.model.specs.Sum.{sum_over}
use Rattle.model.specs.Search.{first}
use Rattle.lists.specs.Lists.{at}
use Rattle.sharing.specs.Share.{most_services, bad_demand}

-- demands that can be shared
pub record InRange (demands : List ℕ) : Type 0 where
  pub some : 1 ≤ length demands
  pub few : length demands ≤ most_services
  pub low : (i : ℕ) → i < length demands → at demands i ≤ most_amount

-- i is the place of the first demand out of range, or the count, and those before it add up to the sum
pub record FirstBad (demands : List ℕ) (i sum : ℕ) : Type 0 where
  pub inside : i ≤ length demands
  pub before : first i (bad_demand demands) ≡ none
  pub here : i < length demands → most_amount < at demands i
  pub adds : sum ≡ sum_over i (λ j. true) (at demands)

-- the demands of the first i services that level t meets, added up
unfoldable pub met_by : List ℕ → ℕ → ℕ → ℕ
met_by demands t i = sum_over i (λ j. leb (at demands j) t) (at demands)
