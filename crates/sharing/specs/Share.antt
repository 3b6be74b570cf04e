-- "Brokers divide a flow's rate among 1 to 16 services with demands up to 10,000,000." In a list of demands or shares a service stands at a place
-- counted from 0; "Services count from 1".
use Rattle.std.specs.Prelude.{ℕ, zero, suc, ◌-◌, ◌+◌, min, Bool, true, cond, not, ◌&&◌, List, leb, ltb, length}
use Rattle.std.proofs.Math.Option.{Option, or_else}
use Rattle.model.specs.Limits.{most_amount}
use Rattle.model.specs.Sum.{sum_over}
use Rattle.model.specs.Search.{only_if, first}
use Rattle.model.specs.Listed.{listed}
use Rattle.model.specs.Outcome.{Outcome, good, Place, unless}
use Rattle.model.specs.declared.Cause.TheVariants.{Unshareable as unshareable}
use Rattle.lists.specs.Lists.{at}

abbrev pub most_services : ℕ
most_services = 16

-- the numbers of a list, added up
unfoldable pub total : List ℕ → ℕ
total l = sum_over (length l) (λ i. true) (at l)

-- "the sum of min(demand, t)"
unfoldable pub up_to : List ℕ → ℕ → ℕ
up_to demands t = sum_over (length demands) (λ i. true) (λ i. min (at demands i) t)

-- the largest number up to n that passes a test; 0 where none does
unfoldable pub largest : ℕ → (ℕ → Bool) → ℕ
largest zero p = 0
largest (suc n) p = cond (p (suc n)) (suc n) (largest n p)

-- "the largest whole level t at which the sum of min(demand, t) is at most the rate". It is looked for up to the rate: where the demands add up to more
-- than that, it is the largest of all (Claim).
unfoldable pub level : ℕ → List ℕ → ℕ
level rate demands = largest rate (λ t. leb (up_to demands t) rate)

-- how many of the first i services have a demand above t
unfoldable pub above : List ℕ → ℕ → ℕ → ℕ
above demands t i = sum_over i (λ j. ltb t (at demands j)) (λ j. 1)

-- "the units left go one each to the lowest-numbered with demand above t"
unfoldable pub unit : List ℕ → ℕ → ℕ → ℕ → ℕ
unit demands t left i = cond (ltb t (at demands i) && ltb (above demands t i) left) 1 0

-- "each gets that minimum, and the units left go one each": one service's share, and all shares at level t
unfoldable pub share_at : List ℕ → ℕ → ℕ → ℕ → ℕ
share_at demands t left i = min (at demands i) t + unit demands t left i

abbrev pub shares_at : ℕ → List ℕ → ℕ → List ℕ
shares_at rate demands t = listed (length demands) (share_at demands t (rate - up_to demands t))

-- "If the demands add up to at most the rate, each is met. Else take the largest whole level"
unfoldable pub shares : ℕ → List ℕ → List ℕ
shares rate demands = cond (leb (total demands) rate) demands (shares_at rate demands (level rate demands))

-- "(21: count, rate or a demand out of range, in this order, before 10; place 0 with second 0 for the count, place 0 with second 1 for the rate, else the
-- first bad service with second 0.)"
unfoldable pub bad_demand : List ℕ → ℕ → Option Place
bad_demand demands i = only_if (ltb most_amount (at demands i)) (record { place = suc i; second = 0 })

unfoldable pub outside : ℕ → List ℕ → Option Place
outside rate demands =
    or_else (only_if (not (leb 1 (length demands) && leb (length demands) most_services)) (record { place = 0; second = 0 }))
    (or_else (only_if (ltb most_amount rate) (record { place = 0; second = 1 }))
    (first (length demands) (bad_demand demands)))

unfoldable pub shared : ℕ → List ℕ → Outcome (List ℕ)
shared rate demands = unless unshareable (outside rate demands) (good (shares rate demands))
