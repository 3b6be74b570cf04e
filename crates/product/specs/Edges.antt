-- The edges P1 to P12, and those of rates that change, of whole-flow switches, of held capacity and of lags, over the definitions that the contracts cite: one list, one computed test.
use Rattle.std.specs.Prelude.{ℕ, Bool, true, false, ◌&&◌, List, [], ◌∷◌, ◌++◌, eqb, length}
use Rattle.model.specs.Outcome.{Outcome, good, refused, number}
use Rattle.lists.specs.Lists.{plan_of, most_plan}
use Rattle.lists.specs.Answers.{with_room, plan, lent}
use Rattle.lists.specs.declared.Answer.{Answer}
use Rattle.lists.specs.declared.Answer.TheVariants.{Done, Plan, Refused}
use Rattle.bound.specs.Bound.{bound_of}
use Rattle.planner.specs.Planned.{planned}
use Rattle.checker.specs.Check.{verdict, checked, marks_after}

-- what a row tells: the step bound; or an answer, done, a plan or a refusal, with its numbers, and a list that goes with it
pub data Told : Type 0 where
  bounds : ℕ → Told
  done plans : ℕ → List ℕ → Told
  refuses : ℕ → ℕ → ℕ → List ℕ → Told

abbrev told : Answer → List ℕ → Told
told (Done n) l = done n l
told (Plan n) l = plans n l
told (Refused m place second) l = refuses m place second l

-- what is computed, and what the paper says
pub record Edge : Type 0 where
  pub got : Told
  pub said : Told

-- the step bound of scratch and no overrun
abbrev bound : ℕ → Told
bound scratch = by (bound_of scratch 0)
  where
    by : Outcome ℕ → Told
    by (good q) = bounds q
    by (refused c place second) = refuses (number c) place second []

-- the planner's answer at a lag, given room, and the number on the plan's `steps` line; and at a lag of 1
abbrev steps_at : ℕ → List ℕ → Told
steps_at w network = told (plan (with_room most_plan (planned w network))) (by (planned w network))
  where
    by : Outcome (List ℕ) → List ℕ
    by (good p) = (plan_of p).steps ∷ []
    by (refused c place second) = []

abbrev steps : List ℕ → Told
steps = steps_at 1

-- the planner's answer, and the whole of the output afterwards
abbrev make : List ℕ → List ℕ → Told
make network out = told (plan (with_room (length out) (planned 1 network))) (lent (with_room (length out) (planned 1 network)) out)

-- the checker's answer to a plan at a lag, and the marks afterwards; and at a lag of 1
abbrev check_at : ℕ → List ℕ → List ℕ → List ℕ → Told
check_at w network p marks = told (checked network (verdict w network p (length marks))) (marks_after w network p (verdict w network p (length marks)) marks)

abbrev check : List ℕ → List ℕ → List ℕ → Told
check = check_at 1

-- the paper's session, with other caps, classes and overrun: scratch, links, flows and tunnels; caps; classes and rates; flow, via, old and new
abbrev swap : ℕ → ℕ → ℕ → List ℕ
swap cap class overrun =
    (1 ∷ 333 ∷ overrun ∷ 2 ∷ 2 ∷ 4 ∷ cap ∷ cap ∷ class ∷ 10 ∷ class ∷ 10 ∷ [])
    ++ (0 ∷ 1 ∷ 10 ∷ 0 ∷ 0 ∷ 2 ∷ 0 ∷ 10 ∷ 1 ∷ 2 ∷ 10 ∷ 0 ∷ 1 ∷ 1 ∷ 0 ∷ 10 ∷ [])

-- "one class 0 flow of rate 10, caps 15, moved from a tunnel over link 0 to one over links 0 and 1"
abbrev longer : List ℕ
longer = 1 ∷ 333 ∷ 0 ∷ 2 ∷ 1 ∷ 2 ∷ 15 ∷ 15 ∷ 0 ∷ 10 ∷ 0 ∷ 1 ∷ 10 ∷ 0 ∷ 0 ∷ 3 ∷ 0 ∷ 10 ∷ []

-- of edition 2, one link and one class 0 flow on one tunnel, whose amount goes from rate to next: scratch, links, flows and tunnels; cap; class, rate and next; flow, via, old and new
abbrev changing : ℕ → ℕ → ℕ → ℕ → List ℕ
changing cap rate next new = 2 ∷ 333 ∷ 0 ∷ 1 ∷ 1 ∷ 1 ∷ cap ∷ 0 ∷ rate ∷ next ∷ 0 ∷ 1 ∷ rate ∷ new ∷ []

-- the session's swap in edition 2, with two flows that grow from 10 to 14
abbrev growing : ℕ → List ℕ
growing cap =
    (2 ∷ 333 ∷ 0 ∷ 2 ∷ 2 ∷ 4 ∷ cap ∷ cap ∷ 0 ∷ 10 ∷ 14 ∷ 0 ∷ 10 ∷ 14 ∷ [])
    ++ (0 ∷ 1 ∷ 10 ∷ 0 ∷ 0 ∷ 2 ∷ 0 ∷ 14 ∷ 1 ∷ 2 ∷ 10 ∷ 0 ∷ 1 ∷ 1 ∷ 0 ∷ 14 ∷ [])

-- the session's swap and the longer way in edition 3, with a unit and with so much held of each link: after the overrun, the unit; of each link cap and held; next is the rate
abbrev swap_held : ℕ → ℕ → ℕ → List ℕ
swap_held unit cap held =
    (3 ∷ 333 ∷ 0 ∷ unit ∷ 2 ∷ 2 ∷ 4 ∷ cap ∷ held ∷ cap ∷ held ∷ 0 ∷ 10 ∷ 10 ∷ 0 ∷ 10 ∷ 10 ∷ [])
    ++ (0 ∷ 1 ∷ 10 ∷ 0 ∷ 0 ∷ 2 ∷ 0 ∷ 10 ∷ 1 ∷ 2 ∷ 10 ∷ 0 ∷ 1 ∷ 1 ∷ 0 ∷ 10 ∷ [])

abbrev longer_held : ℕ → ℕ → ℕ → List ℕ
longer_held unit cap held =
    3 ∷ 333 ∷ 0 ∷ unit ∷ 2 ∷ 1 ∷ 2 ∷ cap ∷ held ∷ cap ∷ held ∷ 0 ∷ 10 ∷ 10 ∷ 0 ∷ 1 ∷ 10 ∷ 0 ∷ 0 ∷ 3 ∷ 0 ∷ 10 ∷ []

-- two flows on two links: one is gathered from two tunnels of link 0 and one of link 1 on the second of them, the other goes from link 0 to link 1
abbrev gathered : ℕ → ℕ → List ℕ
gathered unit cap =
    (3 ∷ 333 ∷ 0 ∷ unit ∷ 2 ∷ 2 ∷ 5 ∷ cap ∷ 0 ∷ cap ∷ 0 ∷ 0 ∷ 10 ∷ 10 ∷ 2 ∷ 10 ∷ 10 ∷ [])
    ++ (0 ∷ 1 ∷ 6 ∷ 0 ∷ 0 ∷ 1 ∷ 0 ∷ 10 ∷ 0 ∷ 2 ∷ 4 ∷ 0 ∷ 1 ∷ 1 ∷ 10 ∷ 0 ∷ 1 ∷ 2 ∷ 0 ∷ 10 ∷ [])

-- a plan of two steps and two parts for one tunnel, with a row between
abbrev through : ℕ → List ℕ
through amount = 1 ∷ 2 ∷ 2 ∷ 1 ∷ amount ∷ []

abbrev one_step : ℕ → List ℕ
one_step tunnels = 1 ∷ 1 ∷ 1 ∷ tunnels ∷ []

abbrev edge : Told → Told → Edge
edge got said = record { got = got; said = said }

unfoldable pub edges : List Edge
edges =
    -- P1
    edge (bound 500) (bounds 1)
    ∷ edge (bound 334) (bounds 2)
    ∷ edge (bound 333) (bounds 3)
    ∷ edge (bound 100) (bounds 9)
    ∷ edge (bound 20) (bounds 49)
    -- P2 to P6
    ∷ edge (steps (swap 20 0 0)) (plans 4 (1 ∷ []))
    ∷ edge (steps (swap 19 0 0)) (plans 8 (2 ∷ []))
    ∷ edge (steps (swap 15 0 0)) (plans 8 (2 ∷ []))
    ∷ edge (steps (swap 14 0 0)) (plans 12 (3 ∷ []))
    ∷ edge (steps (swap 11 0 0)) (plans 40 (10 ∷ []))
    -- P7
    ∷ edge (steps (swap 10 0 0)) (refuses 9 1 0 [])
    -- P8 and P9; of class 0, P8's network has no plan: protected traffic is not let into the overrun
    ∷ edge (steps (swap 10 2 100)) (plans 40 (10 ∷ []))
    ∷ edge (steps (swap 10 2 20)) (plans 200 (50 ∷ []))
    ∷ edge (steps (swap 10 0 100)) (refuses 9 1 0 [])
    -- P10
    ∷ edge (check (swap 15 0 0) (one_step 4) (9 ∷ 9 ∷ 9 ∷ 9 ∷ [])) (refuses 7 1 0 (0 ∷ 0 ∷ 0 ∷ 1 ∷ []))
    -- P11
    ∷ edge (check longer (one_step 2) (9 ∷ 9 ∷ [])) (refuses 7 1 0 (0 ∷ 1 ∷ []))
    -- P12: the whole list, and a number after it that stays
    ∷ edge (make (1 ∷ 333 ∷ 0 ∷ 1 ∷ 0 ∷ 0 ∷ 15 ∷ []) (9 ∷ 9 ∷ 9 ∷ 9 ∷ 9 ∷ [])) (plans 4 (1 ∷ 1 ∷ 1 ∷ 0 ∷ 9 ∷ []))
    -- the session: its whole plan, which is accepted, and the marks are then 0
    ∷ edge (make (swap 15 0 0) (9 ∷ 9 ∷ 9 ∷ 9 ∷ 9 ∷ 9 ∷ 9 ∷ 9 ∷ [])) (plans 8 (1 ∷ 2 ∷ 2 ∷ 4 ∷ 10 ∷ 10 ∷ 10 ∷ 10 ∷ []))
    ∷ edge (check (swap 15 0 0) (1 ∷ 2 ∷ 2 ∷ 4 ∷ 10 ∷ 10 ∷ 10 ∷ 10 ∷ []) (9 ∷ 9 ∷ 9 ∷ 9 ∷ 9 ∷ [])) (done 4 (0 ∷ 0 ∷ 0 ∷ 0 ∷ 9 ∷ []))
    -- (v): a flow that grows from 10 to 20, and one that shrinks; on a link that is too small for the greater there is no plan
    ∷ edge (make (changing 20 10 20 20) (9 ∷ 9 ∷ 9 ∷ 9 ∷ 9 ∷ [])) (plans 4 (1 ∷ 1 ∷ 1 ∷ 1 ∷ 9 ∷ []))
    ∷ edge (make (changing 20 20 10 10) (9 ∷ 9 ∷ 9 ∷ 9 ∷ 9 ∷ [])) (plans 4 (1 ∷ 1 ∷ 1 ∷ 1 ∷ 9 ∷ []))
    ∷ edge (steps (changing 19 10 20 20)) (refuses 9 46 0 [])
    ∷ edge (steps (changing 19 20 10 10)) (refuses 9 1 0 [])
    -- two that grow from 10 to 14 and change places
    ∷ edge (steps (growing 24)) (plans 4 (1 ∷ []))
    ∷ edge (steps (growing 23)) (plans 8 (2 ∷ []))
    ∷ edge (steps (growing 15)) (plans 40 (10 ∷ []))
    ∷ edge (steps (growing 14)) (refuses 9 48 0 [])
    -- a listed row may have any sum from one rate to the other, in parts, and neither less nor more
    ∷ edge (check (changing 20 10 20 20) (through 20) (9 ∷ [])) (done 1 (0 ∷ []))
    ∷ edge (check (changing 20 10 20 20) (through 40) (9 ∷ [])) (done 1 (0 ∷ []))
    ∷ edge (check (changing 20 20 10 10) (through 31) (9 ∷ [])) (done 1 (0 ∷ []))
    ∷ edge (check (changing 20 10 20 20) (through 19) (9 ∷ [])) (refuses 6 1 0 (9 ∷ []))
    ∷ edge (check (changing 20 10 20 20) (through 41) (9 ∷ [])) (refuses 6 1 0 (9 ∷ []))
    -- new amounts that miss next, and old ones that have next instead of rate
    ∷ edge (steps (changing 20 10 20 10)) (refuses 4 0 1 [])
    ∷ edge (steps (2 ∷ 333 ∷ 0 ∷ 1 ∷ 1 ∷ 1 ∷ 20 ∷ 0 ∷ 10 ∷ 20 ∷ 0 ∷ 1 ∷ 20 ∷ 20 ∷ [])) (refuses 4 0 0 [])
    -- edition 1 has no number for next, and there is no edition 0 or 4
    ∷ edge (steps (1 ∷ 333 ∷ 0 ∷ 1 ∷ 1 ∷ 1 ∷ 20 ∷ 0 ∷ 10 ∷ 20 ∷ 0 ∷ 1 ∷ 10 ∷ 20 ∷ [])) (refuses 2 10 0 [])
    ∷ edge (steps (4 ∷ 333 ∷ 0 ∷ 1 ∷ 0 ∷ 0 ∷ 15 ∷ [])) (refuses 2 1 0 [])
    ∷ edge (steps (0 ∷ 333 ∷ 0 ∷ 1 ∷ 0 ∷ 0 ∷ 15 ∷ [])) (refuses 2 1 0 [])
    -- (vii): with `unit=1` the move of P11 passes, in one step, and the swap of P10 does not
    ∷ edge (check (longer_held 0 15 0) (one_step 2) (9 ∷ 9 ∷ [])) (refuses 7 1 0 (0 ∷ 1 ∷ []))
    ∷ edge (check (longer_held 1 15 0) (one_step 2) (9 ∷ 9 ∷ [])) (done 2 (0 ∷ 0 ∷ []))
    ∷ edge (steps (longer_held 0 15 0)) (plans 6 (2 ∷ []))
    ∷ edge (steps (longer_held 1 15 0)) (plans 4 (1 ∷ []))
    ∷ edge (check (swap_held 0 15 0) (one_step 4) (9 ∷ 9 ∷ 9 ∷ 9 ∷ [])) (refuses 7 1 0 (0 ∷ 0 ∷ 0 ∷ 1 ∷ []))
    ∷ edge (check (swap_held 1 15 0) (one_step 4) (9 ∷ 9 ∷ 9 ∷ 9 ∷ [])) (refuses 7 1 0 (0 ∷ 0 ∷ 0 ∷ 1 ∷ []))
    -- what is held is not there for the planner, nor for the checker: P5, P6 and P7 with larger caps; a link may be held as a whole
    ∷ edge (steps (swap_held 0 20 6)) (plans 12 (3 ∷ []))
    ∷ edge (steps (swap_held 0 20 9)) (plans 40 (10 ∷ []))
    ∷ edge (steps (swap_held 0 20 10)) (refuses 9 1 0 [])
    ∷ edge (steps (swap_held 1 20 20)) (refuses 9 1 0 [])
    ∷ edge (check (longer_held 1 15 5) (one_step 2) (9 ∷ 9 ∷ [])) (done 2 (0 ∷ 0 ∷ []))
    ∷ edge (check (longer_held 1 15 6) (one_step 2) (9 ∷ 9 ∷ [])) (refuses 7 1 0 (0 ∷ 0 ∷ []))
    -- a flow's amounts on a link are added, then the larger sum counts; the mark falls also on a tunnel whose own amount falls
    ∷ edge (steps (gathered 0 20)) (plans 14 (3 ∷ []))
    ∷ edge (steps (gathered 1 20)) (plans 4 (1 ∷ []))
    ∷ edge (check (gathered 0 9) (one_step 5) (9 ∷ 9 ∷ 9 ∷ 9 ∷ 9 ∷ [])) (refuses 7 1 0 (0 ∷ 1 ∷ 0 ∷ 0 ∷ 0 ∷ []))
    ∷ edge (check (gathered 1 9) (one_step 5) (9 ∷ 9 ∷ 9 ∷ 9 ∷ 9 ∷ [])) (refuses 7 1 0 (1 ∷ 1 ∷ 0 ∷ 0 ∷ 0 ∷ []))
    -- and on class 2 after 7: the second flow of the swap
    ∷ edge (check ((3 ∷ 333 ∷ 0 ∷ 1 ∷ 2 ∷ 2 ∷ 4 ∷ 9 ∷ 0 ∷ 9 ∷ 0 ∷ 0 ∷ 10 ∷ 10 ∷ 2 ∷ 10 ∷ 10 ∷ []) ++ (0 ∷ 1 ∷ 10 ∷ 0 ∷ 0 ∷ 2 ∷ 0 ∷ 10 ∷ 1 ∷ 2 ∷ 10 ∷ 0 ∷ 1 ∷ 1 ∷ 0 ∷ 10 ∷ [])) (one_step 4) (9 ∷ 9 ∷ 9 ∷ 9 ∷ [])) (refuses 7 1 0 (0 ∷ 0 ∷ 0 ∷ 1 ∷ []))
    -- held above the capacity before it is refused at its line, and so is a unit above 1
    ∷ edge (steps (swap_held 0 15 16)) (refuses 2 9 0 [])
    ∷ edge (steps (swap_held 2 15 0)) (refuses 2 4 0 [])
    -- (xi): the session's swap at lags of 1 to 4
    ∷ edge (steps_at 1 (swap 15 0 0)) (plans 8 (2 ∷ []))
    ∷ edge (steps_at 2 (swap 15 0 0)) (plans 16 (4 ∷ []))
    ∷ edge (steps_at 3 (swap 15 0 0)) (plans 24 (6 ∷ []))
    ∷ edge (steps_at 4 (swap 15 0 0)) (plans 32 (8 ∷ []))
    -- its plan of 2 steps, at a lag of 2 and more: one window of all rows, in which what comes to link 0 is at its largest in the last
    ∷ edge (check_at 2 (swap 15 0 0) (1 ∷ 2 ∷ 2 ∷ 4 ∷ 10 ∷ 10 ∷ 10 ∷ 10 ∷ []) (9 ∷ 9 ∷ 9 ∷ 9 ∷ 9 ∷ [])) (refuses 7 1 0 (0 ∷ 0 ∷ 0 ∷ 1 ∷ 9 ∷ []))
    ∷ edge (check_at 4 (swap 15 0 0) (1 ∷ 2 ∷ 2 ∷ 4 ∷ 10 ∷ 10 ∷ 10 ∷ 10 ∷ []) (9 ∷ 9 ∷ 9 ∷ 9 ∷ 9 ∷ [])) (refuses 7 1 0 (0 ∷ 0 ∷ 0 ∷ 1 ∷ 9 ∷ []))
    -- 9 names the first overload of the plan of 50 steps at this lag, of a window
    ∷ edge (steps_at 4 (changing 19 10 20 20)) (refuses 9 43 0 [])
    -- with `unit=1` the sums of a flow take the place of amounts
    ∷ edge (steps_at 4 (longer_held 1 15 0)) (plans 4 (1 ∷ []))
    -- a lag outside 1..4, before all else
    ∷ edge (steps_at 0 (swap 15 0 0)) (refuses 19 0 0 [])
    ∷ edge (steps_at 5 []) (refuses 19 5 0 [])
    ∷ edge (check_at 0 [] [] []) (refuses 19 0 0 [])
    ∷ edge (check_at 5 (swap 15 0 0) (1 ∷ 2 ∷ 2 ∷ 4 ∷ 10 ∷ 10 ∷ 10 ∷ 10 ∷ []) (9 ∷ 9 ∷ 9 ∷ 9 ∷ [])) (refuses 19 5 0 (9 ∷ 9 ∷ 9 ∷ 9 ∷ []))
    ∷ []

unfoldable pub same : List ℕ → List ℕ → Bool
same [] [] = true
same [] (y ∷ ys) = false
same (x ∷ xs) [] = false
same (x ∷ xs) (y ∷ ys) = eqb x y && same xs ys

-- a row as numbers, its kind first
unfoldable pub numbers : Told → List ℕ
numbers (bounds q) = 0 ∷ q ∷ []
numbers (done n l) = 1 ∷ n ∷ l
numbers (plans n l) = 2 ∷ n ∷ l
numbers (refuses m place second l) = 3 ∷ m ∷ place ∷ second ∷ l

unfoldable pub hold : List Edge → Bool
hold [] = true
hold (e ∷ es) = same (numbers e.got) (numbers e.said) && hold es
