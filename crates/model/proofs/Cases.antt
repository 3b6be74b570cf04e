-- The paper's edges P1 to P12 at the model's definitions, and cases of the second paper: each is computed.
use Prim.Native.Nat.{ℕ, zero, suc}
use mathlib.Core.Path.{◌≡◌, refl}
use mathlib.Core.Bool.{Bool, true, false, cond}
use mathlib.Core.Option.{Option, none, some, or_else}
use mathlib.Core.List.{List, [], ◌∷◌, ◌++◌}
use lib.Dec.{eqb}
use lib.ListN.{length, get_or}
use Rattle.model.specs.Sum.{sum_over}
use Rattle.model.specs.Largest.{largest}
use Rattle.model.specs.Search.{only_if, is_none, first}
use Rattle.model.specs.Net.{Net, Plan, row}
use Rattle.model.specs.Scan.{Bound, Overload, scan, test_link, test}
use Rattle.model.specs.Rule.{reach, crosses, across, by_flow, movers, mover_of, flow_of, on_link, counts, load, exceeds, flow_sum, between, missed_in, missed_row, step_count, worst, worst_over, first_overload, accepted, mark}
use Rattle.model.specs.Even.{even_row, even, fewest, ceil_div, step_bound, lag_bound, leaves_scratch, keeps_scratch}
use Rattle.model.specs.Limits.{most_steps}

-- two links of the same cap, and flows of the same class, of rate 10 and of the same next; of the tunnels, lists
unfoldable pub network : ℕ → ℕ → ℕ → ℕ → ℕ → ℕ → List ℕ → List ℕ → List ℕ → List ℕ → Net
network unit next cap class overrun flows flow via old new = record {
  scratch = 333;
  overrun = overrun;
  unit = unit;
  links = 2;
  flows = flows;
  tunnels = length flow;
  cap = λ l. cap;
  class = λ f. class;
  rate = λ f. 10;
  next = λ f. next;
  flow = λ t. get_or flow t 0;
  via = λ t. get_or via t 0;
  old = λ t. get_or old t 0;
  new = λ t. get_or new t 0;
}

-- the paper's session, with another next, and with other caps, classes and overrun
unfoldable pub swap_to : ℕ → ℕ → ℕ → ℕ → Net
swap_to next cap class overrun =
    network 0 next cap class overrun 2 (0 ∷ 0 ∷ 1 ∷ 1 ∷ []) (1 ∷ 2 ∷ 2 ∷ 1 ∷ []) (10 ∷ 0 ∷ 10 ∷ 0 ∷ []) (0 ∷ next ∷ 0 ∷ next ∷ [])

unfoldable pub swap : ℕ → ℕ → ℕ → Net
swap = swap_to 10

-- two steps of one part, with a row between
unfoldable pub through : List ℕ → Plan
through row = record { parts = 1; steps = 2; at = λ a t. get_or row t 0 }

-- one flow, moved from a tunnel over link 0 to one over links 0 and 1
unfoldable pub longer : ℕ → Net
longer unit = network unit 10 15 0 0 1 (0 ∷ 0 ∷ []) (1 ∷ 3 ∷ []) (10 ∷ 0 ∷ []) (0 ∷ 10 ∷ [])

-- two flows: one is gathered from two links on a tunnel of the first, beside a tunnel that it leaves; the other goes from the first link to the second
unfoldable pub gather : ℕ → ℕ → Net
gather unit cap =
    network unit 10 cap 0 0 2 (0 ∷ 0 ∷ 0 ∷ 1 ∷ 1 ∷ []) (1 ∷ 1 ∷ 2 ∷ 1 ∷ 2 ∷ []) (6 ∷ 0 ∷ 4 ∷ 10 ∷ 0 ∷ []) (0 ∷ 10 ∷ 0 ∷ 0 ∷ 10 ∷ [])

unfoldable pub empty : Net
empty = network 0 10 15 0 0 0 [] [] [] []

-- the marks of the tunnels 0, 1, .. n - 1 where a plan overloads link 0 in the first step
unfoldable pub marks_of : ℕ → Net → Plan → ℕ → List Bool
marks_of w N P zero = []
marks_of w N P (suc n) = marks_of w N P n ++ (mark w N P (record { bound = Bound.protected; from = 0; link = 0 }) n ∷ [])

unfoldable pub marks : ℕ → Net → ℕ → List Bool
marks w N n = marks_of w N (even N 1) n

-- three steps of one part for `gather`: the second flow moves in the first step, the first flow in the second
unfoldable pub in_turn : Plan
in_turn = record { parts = 1; steps = 3; at = λ a t. cond (eqb a 1) (get_or (6 ∷ 0 ∷ 4 ∷ 0 ∷ 10 ∷ []) t 0) (get_or (0 ∷ 10 ∷ 0 ∷ 0 ∷ 10 ∷ []) t 0) }

unfoldable pub in_step1 : Bound → Option Overload
in_step1 b = some (record { bound = b; from = 0; link = 0 })

pub record Cases : Type 0 where
  -- P1; with an overrun, the larger of the two numbers
  pub bounds : step_bound 500 0 ∷ step_bound 334 0 ∷ step_bound 333 0 ∷ step_bound 100 0 ∷ step_bound 20 0 ∷ step_bound 500 20 ∷ step_bound 20 500 ∷ []
      ≡ 1 ∷ 2 ∷ 3 ∷ 9 ∷ 49 ∷ 50 ∷ 49 ∷ []
  -- P2 to P7 and P12
  pub protected : fewest 1 (swap 20 0 0) ∷ fewest 1 (swap 19 0 0) ∷ fewest 1 (swap 15 0 0) ∷ fewest 1 (swap 14 0 0) ∷ fewest 1 (swap 11 0 0) ∷ fewest 1 (swap 10 0 0) ∷ fewest 1 empty ∷ []
      ≡ some 1 ∷ some 2 ∷ some 2 ∷ some 3 ∷ some 10 ∷ none ∷ some 1 ∷ []
  -- P8 and P9; class 0 in place of 2, or class 2 without an overrun, has no plan
  pub background : fewest 1 (swap 10 2 100) ∷ fewest 1 (swap 10 2 20) ∷ fewest 1 (swap 10 0 100) ∷ fewest 1 (swap 10 2 0) ∷ [] ≡ some 10 ∷ some 50 ∷ none ∷ none ∷ []
  -- what refusal 9 names in P7 and where class 2 has no overrun; P10 and P11 in one step
  pub overloads : first_overload 1 (swap 10 0 0) (even (swap 10 0 0) most_steps) ∷ first_overload 1 (swap 10 2 0) (even (swap 10 2 0) most_steps) ∷ first_overload 1 (swap 15 0 0) (even (swap 15 0 0) 1) ∷ first_overload 1 (longer 0) (even (longer 0) 1) ∷ []
      ≡ in_step1 Bound.protected ∷ in_step1 Bound.total ∷ in_step1 Bound.protected ∷ in_step1 Bound.protected ∷ []
  pub marked : marks 1 (swap 15 0 0) 4 ∷ marks 1 (longer 0) 2 ∷ [] ≡ (false ∷ false ∷ false ∷ true ∷ []) ∷ (false ∷ true ∷ []) ∷ []
  -- 10 of 15 leave 333 thousandths of the capacity free, 10 of 14 do not; with an overrun all classes may fill it
  pub scratch : keeps_scratch (swap 15 0 0) ∷ keeps_scratch (swap 14 0 0) ∷ keeps_scratch (swap 10 2 20) ∷ keeps_scratch (swap 9 2 20) ∷ [] ≡ true ∷ false ∷ true ∷ false ∷ []
  -- (v): the flows of the swap go from 10 to 14
  pub changing : fewest 1 (swap_to 14 24 0 0) ∷ fewest 1 (swap_to 14 23 0 0) ∷ fewest 1 (swap_to 14 20 0 0) ∷ fewest 1 (swap_to 14 15 0 0) ∷ fewest 1 (swap_to 14 14 0 0) ∷ []
      ≡ some 1 ∷ some 2 ∷ some 2 ∷ some 10 ∷ none ∷ []
  -- a row may have any sums from 10 to 14, but neither 15 nor 9
  pub sums : missed_row (swap_to 14 40 0 0) (through (4 ∷ 10 ∷ 7 ∷ 3 ∷ [])) ∷ missed_row (swap_to 14 40 0 0) (through (10 ∷ 0 ∷ 15 ∷ 0 ∷ [])) ∷ missed_row (swap_to 14 40 0 0) (through (5 ∷ 4 ∷ 10 ∷ 0 ∷ [])) ∷ []
      ≡ none ∷ some (record { place = 1; second = 1 }) ∷ some (record { place = 1; second = 0 }) ∷ []
  -- (vii): with `unit=1` "the move of P11" passes, and a flow's sum stands for the amounts of its tunnels
  pub units : first_overload 1 (longer 1) (even (longer 1) 1) ∷ first_overload 1 (gather 0 20) (even (gather 0 20) 1) ∷ first_overload 1 (gather 1 20) (even (gather 1 20) 1) ∷ first_overload 1 (gather 1 15) (even (gather 1 15) 1) ∷ []
      ≡ none ∷ in_step1 Bound.protected ∷ none ∷ in_step1 Bound.protected ∷ []
  pub by-flows : fewest 1 (gather 0 20) ∷ fewest 1 (gather 1 20) ∷ fewest 1 (gather 1 15) ∷ [] ≡ some 3 ∷ some 1 ∷ none ∷ []
  -- the mark falls on a tunnel that its flow leaves, too, where the flow's sum rises
  pub marked-flows : marks 1 (gather 0 15) 5 ∷ marks 1 (gather 1 15) 5 ∷ [] ≡ (false ∷ true ∷ false ∷ false ∷ false ∷ []) ∷ (true ∷ true ∷ false ∷ false ∷ false ∷ []) ∷ []
  -- (xi): with a lag of 2, or of 4, an even plan has more steps; one of a step, or of a flow that does not rise, stays
  pub lags : fewest 2 (swap 20 0 0) ∷ fewest 2 (swap 19 0 0) ∷ fewest 2 (swap 15 0 0) ∷ fewest 2 (swap 11 0 0) ∷ fewest 2 (swap 10 0 0) ∷ fewest 2 (swap 10 2 100) ∷ fewest 4 (swap 15 0 0) ∷ []
      ≡ some 1 ∷ some 3 ∷ some 4 ∷ some 20 ∷ none ∷ some 20 ∷ some 8 ∷ []
  pub lag-flows : fewest 2 (longer 0) ∷ fewest 2 (longer 1) ∷ fewest 2 (gather 0 20) ∷ fewest 2 (gather 1 20) ∷ [] ≡ some 4 ∷ some 1 ∷ some 5 ∷ some 1 ∷ []
  -- two flows that move in turn meet where an agent falls behind
  pub in-turn : first_overload 1 (gather 0 18) in_turn ∷ first_overload 2 (gather 0 18) in_turn ∷ first_overload 1 (gather 1 18) in_turn ∷ first_overload 2 (gather 1 18) in_turn ∷ []
      ≡ none ∷ in_step1 Bound.protected ∷ none ∷ in_step1 Bound.protected ∷ []
  pub marked-lag : marks_of 2 (gather 0 18) in_turn 5 ∷ marks_of 2 (gather 1 18) in_turn 5 ∷ [] ≡ (false ∷ true ∷ false ∷ false ∷ false ∷ []) ∷ (true ∷ true ∷ false ∷ false ∷ false ∷ []) ∷ []
  pub lag-bounds : lag_bound 1 333 0 ∷ lag_bound 2 500 0 ∷ lag_bound 2 333 0 ∷ lag_bound 4 100 0 ∷ lag_bound 2 500 100 ∷ lag_bound 3 333 500 ∷ []
      ≡ 3 ∷ 2 ∷ 5 ∷ 36 ∷ 20 ∷ 7 ∷ []

pub cases : Cases
unfolding network swap_to swap through gather longer empty marks marks_of in_turn in_step1 step_bound lag_bound ceil_div fewest even even_row keeps_scratch leaves_scratch accepted missed_row missed_in between flow_sum first_overload step_count scan test_link test worst_over exceeds load counts worst largest reach mark row on_link by_flow movers mover_of flow_of across crosses sum_over only_if is_none or_else first
cases = record { bounds = refl; protected = refl; background = refl; overloads = refl; marked = refl; scratch = refl; changing = refl; sums = refl; units = refl; by-flows = refl; marked-flows = refl; lags = refl; lag-flows = refl; in-turn = refl; marked-lag = refl; lag-bounds = refl }
