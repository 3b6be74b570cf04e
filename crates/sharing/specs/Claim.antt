-- What holds of the shares, whenever a flow is shared.
use Rattle.std.specs.Prelude.{ℕ, ◌+◌, ◌≤◌, ◌<◌, ◌≡◌, List, length}
use Rattle.model.specs.Outcome.{good}
use Rattle.lists.specs.Lists.{at}
use Rattle.sharing.specs.Share.{total, up_to, level, shares_at, shared}

-- "the largest whole level t at which the sum of min(demand, t) is at most the rate", of all levels
pub record IsLevel (rate : ℕ) (demands : List ℕ) (t : ℕ) : Type 0 where
  pub fits : up_to demands t ≤ rate
  pub most : (u : ℕ) → up_to demands u ≤ rate → u ≤ t

-- what the services see of it
pub record Fair (rate : ℕ) (demands shares : List ℕ) : Type 0 where
  pub count : length shares ≡ length demands
  -- "If the demands add up to at most the rate, each is met."
  pub met : total demands ≤ rate → shares ≡ demands
  -- "The total is then the rate"
  pub whole : rate < total demands → total shares ≡ rate
  -- nobody gets more than its demand
  pub within : (i : ℕ) → i < length demands → at shares i ≤ at demands i
  -- "nobody short of its demand has over one unit less than another"
  pub even : (i j : ℕ) → i < length demands → j < length demands → at shares i < at demands i → at shares j ≤ at shares i + 1
  -- "the units left go one each to the lowest-numbered": nobody short of its demand has less than one after it
  pub lowest : (i j : ℕ) → i < j → j < length demands → at shares i < at demands i → at shares j ≤ at shares i

pub record Claim : Type 0 where
  -- the shares that are given are fair
  pub fair : (rate : ℕ) (demands shares : List ℕ) → shared rate demands ≡ good shares → Fair rate demands shares
  -- "Else take the largest whole level t": there is one, and the shares are those at it
  pub cut : (rate : ℕ) (demands shares : List ℕ) → shared rate demands ≡ good shares → rate < total demands
      → IsLevel rate demands (level rate demands) × (shares ≡ shares_at rate demands (level rate demands))
  -- no other shares are fair
  pub only : (rate : ℕ) (demands one other : List ℕ) → Fair rate demands one → Fair rate demands other → one ≡ other
