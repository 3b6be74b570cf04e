-- What one pass over the tunnels gathers. "the check is to gather all links' loads of a step in one pass over the tunnels"
use Rattle.std.specs.Prelude.{ℕ, zero, suc, ◌+◌, Bool, cond, eqb}
use Rattle.model.specs.Sets.{in_set}
use Rattle.model.specs.Sum.{sum_over}
use Rattle.model.specs.Largest.{largest}

-- an amount, added to the load of each link of a set
unfoldable pub added_on : ℕ → ℕ → (ℕ → ℕ) → ℕ → ℕ
added_on set x loads l = loads l + cond (in_set set l) x 0

-- the loads of all links after the first n tunnels, which have the sets via and the amounts x: each that counts adds its amount
unfoldable pub gathered : (ℕ → ℕ) → (ℕ → Bool) → (ℕ → ℕ) → ℕ → ℕ → ℕ
gathered via counts x zero = λ l. 0
gathered via counts x (suc n) = added_on (via n) (cond (counts n) (x n) 0) (gathered via counts x n)

-- the tunnels of flow f
unfoldable pub of_flow : (ℕ → ℕ) → ℕ → ℕ → Bool
of_flow flow f t = eqb (flow t) f

-- the largest of what the tunnels that c picks gather with the amounts x 0, x 1, .. x w
unfoldable pub largest_sum : (ℕ → ℕ) → (ℕ → Bool) → ℕ → (ℕ → ℕ → ℕ) → ℕ → ℕ → ℕ
largest_sum via c w x n l = largest w (λ k. gathered via c (x k) n l)

-- the loads of all links, flow by flow: "a flow's amounts on a link are added for each row", and "the largest in the window" counts
unfoldable pub gathered_by_flow : (ℕ → ℕ) → (ℕ → ℕ) → (ℕ → Bool) → ℕ → (ℕ → ℕ → ℕ) → ℕ → ℕ → ℕ → ℕ
gathered_by_flow via flow counts w x n flows l = sum_over flows counts (λ f. largest_sum via (of_flow flow f) w x n l)
