-- What the search for the fewest even steps answers, and what is looked for where there is no plan.
use Rattle.std.specs.Prelude.{ℕ, ◌≤◌, ◌<◌, ◌≡◌, Bool, true, false, ◌||◌, Option, None, Some}
use Rattle.std.proofs.Math.Option as math
use Rattle.model.specs.Limits.{most_steps}
use Rattle.model.specs.Net.{Net}
use Rattle.model.specs.Scan.{Bound}
use Rattle.model.specs.Rule.{exceeds, worst_over}
use Rattle.model.specs.Even.{even}
use Rattle.model.specs.ThreeSums.{end_load}

abbrev pub answered : math.Option ℕ → Option ℕ
answered math.none = None
answered (math.some q) = Some q

-- in a plan of q parts, the loads p of the protected classes and a of all break a bound on link l
abbrev pub is_over : Net → ℕ → ℕ → ℕ → ℕ → Bool
is_over N q l p a = exceeds N Bound.protected q l p || exceeds N Bound.total q l a

-- at a lag of w, the even plan of q steps breaks a bound on link l
abbrev pub is_short : ℕ → Net → ℕ → ℕ → Bool
is_short w N q l = is_over N q l (end_load w N Bound.protected q l) (end_load w N Bound.total q l)

-- r is the fewest steps, at least so many, whose even plan breaks no bound on link l
pub record FewestOn (w : ℕ) (N : Net) (least l : ℕ) (r : Option ℕ) : Type 0 where
  pub most : (q : ℕ) → r ≡ Some q → (least ≤ q) × (q ≤ most_steps)
  pub kept : (q : ℕ) → r ≡ Some q → is_short w N q l ≡ false
  pub below : (q i : ℕ) → r ≡ Some q → least ≤ i → i < q → is_short w N i l ≡ true
  pub none : r ≡ None → (i : ℕ) → least ≤ i → i ≤ most_steps → is_short w N i l ≡ true

-- the plan of 50 steps does, in the window from row i
abbrev pub is_over_in : ℕ → Net → ℕ → ℕ → Bool
is_over_in w N i l = worst_over w N (even N most_steps) i l Bound.protected || worst_over w N (even N most_steps) i l Bound.total
