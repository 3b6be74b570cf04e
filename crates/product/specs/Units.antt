-- "What passes with `unit=0` passes with `unit=1`": of lists that differ in that number alone, by the checker's and the planner's answers at a lag of w.
use Rattle.std.specs.Prelude.{ℕ, ◌≤◌, ◌≡◌, List, set}
use Rattle.lists.specs.Lists.{at, plan_of}
use Rattle.product.specs.Demand2.{Accepts}
use Rattle.product.specs.Demand3.{Returns}

-- "Edition `net=3` is edition 2 with `unit` .. after `overrun`": a list of edition 3 with `unit=0`, and the same with `unit=1`
abbrev pub UnitZero : List ℕ → Type 0
UnitZero n = (at n 0 ≡ 3) × (at n 3 ≡ 0)

abbrev pub unit_one : List ℕ → List ℕ
unit_one n = set n 3 1

pub record Units : Type 0 where
  pub checker : (w : ℕ) (n p : List ℕ) (room : ℕ) → UnitZero n → Accepts w n p room → Accepts w (unit_one n) p room
  -- and the planner's fewest steps are no more
  pub planner : (w : ℕ) (n p out : List ℕ) → UnitZero n → Returns w n p out → (q : List ℕ) × ((plan_of q).steps ≤ (plan_of p).steps) × Returns w (unit_one n) q out
