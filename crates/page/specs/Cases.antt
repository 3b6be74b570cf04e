-- Pages in full, and the refusals in their sequence: each is computed.
use Rattle.std.specs.Prelude.{ℕ, Bool, true, false, ◌&&◌, eqb}
use Prim.Native.String.{String}
use mathlib.Core.List.{List, [], ◌∷◌, ◌++◌, flat_map}
use Rattle.model.specs.Outcome.{Outcome, good, refused, number}
use Rattle.lists.specs.Answers.{with_room}
use Rattle.forms.specs.Bytes.{bytes}
use Rattle.page.specs.Page.{page_of}

-- lines as they are printed
unfoldable pub printed : List String → List ℕ
unfolding flat_map
printed lines = flat_map (λ s. bytes s ++ (10 ∷ [])) lines

-- what is computed, and what the paper says
pub record Case : Type 0 where
  pub got : List ℕ
  pub said : List ℕ

abbrev case : List ℕ → List ℕ → Case
case got said = record { got = got; said = said }

-- the bytes of a page, or the three numbers of a refusal
abbrev told : Outcome (List ℕ) → List ℕ
told (good t) = t
told (refused c place second) = number c ∷ place ∷ second ∷ []

-- the paper's session, and the plan that it prints
abbrev swap : List ℕ
swap = 1 ∷ 333 ∷ 0 ∷ 2 ∷ 2 ∷ 4 ∷ 15 ∷ 15 ∷ 0 ∷ 10 ∷ 0 ∷ 10 ∷ 0 ∷ 1 ∷ 10 ∷ 0 ∷ 0 ∷ 2 ∷ 0 ∷ 10 ∷ 1 ∷ 2 ∷ 10 ∷ 0 ∷ 1 ∷ 1 ∷ 0 ∷ 10 ∷ []

abbrev two_steps : List ℕ
two_steps = 1 ∷ 2 ∷ 2 ∷ 4 ∷ 10 ∷ 10 ∷ 10 ∷ 10 ∷ []

-- a flow of class 1 that moves in part to a tunnel over both links, beside one of class 2 that stays
abbrev mixed : List ℕ
mixed = 1 ∷ 100 ∷ 100 ∷ 2 ∷ 2 ∷ 3 ∷ 12 ∷ 11 ∷ 1 ∷ 7 ∷ 2 ∷ 5 ∷ 0 ∷ 1 ∷ 7 ∷ 3 ∷ 0 ∷ 3 ∷ 0 ∷ 4 ∷ 1 ∷ 2 ∷ 5 ∷ 5 ∷ []

-- the same in edition 3, with a unit and with something held of each link: after the overrun, the unit; of each link cap and held; next is the rate
abbrev mixed_held : ℕ → List ℕ
mixed_held unit = 3 ∷ 100 ∷ 100 ∷ unit ∷ 2 ∷ 2 ∷ 3 ∷ 12 ∷ 1 ∷ 15 ∷ 4 ∷ 1 ∷ 7 ∷ 7 ∷ 2 ∷ 5 ∷ 5 ∷ 0 ∷ 1 ∷ 7 ∷ 3 ∷ 0 ∷ 3 ∷ 0 ∷ 4 ∷ 1 ∷ 2 ∷ 5 ∷ 5 ∷ []

abbrev one_step : ℕ → List ℕ
one_step tunnels = 1 ∷ 1 ∷ 1 ∷ tunnels ∷ []

-- of edition 2, a flow that grows from 10 to 20 on one link
abbrev growing : List ℕ
growing = 2 ∷ 333 ∷ 0 ∷ 1 ∷ 1 ∷ 1 ∷ 20 ∷ 0 ∷ 10 ∷ 20 ∷ 0 ∷ 1 ∷ 10 ∷ 20 ∷ []

-- no flows and no tunnels, on one link
abbrev empty : List ℕ
empty = 1 ∷ 20 ∷ 0 ∷ 1 ∷ 0 ∷ 0 ∷ 10000000 ∷ []

unfoldable pub cases : List Case
cases =
    case (told (page_of swap two_steps 2)) (printed (
    "  step  link       cap protected       all"
    ∷ "     2     0        30        30        30"
    ∷ "     2     1        30        30        30"
    ∷ "tunnel  flow      hops       old       new"
    ∷ "     0     0         1        10         0"
    ∷ "     1     0         1         0        10"
    ∷ "     2     1         1        10         0"
    ∷ "     3     1         1         0        10"
    ∷ []))
    ∷ case (told (with_room 301 (page_of mixed (one_step 3) 1))) (printed (
    "  step  link       cap protected       all"
    ∷ "     1     0        12        11        11"
    ∷ "     1     1        11         4         9"
    ∷ "tunnel  flow      hops       old       new"
    ∷ "     0     0         1         7         3"
    ∷ "     1     0         2         0         4"
    ∷ "     2     1         1         5         5"
    ∷ []))
    -- with `unit=1` the flow's 7 units stay on link 0; what is held is taken off
    ∷ case (told (page_of (mixed_held 1) (one_step 3) 1)) (printed (
    "  step  link       cap protected       all"
    ∷ "     1     0        11         7         7"
    ∷ "     1     1        11         4         9"
    ∷ "tunnel  flow      hops       old       new"
    ∷ "     0     0         1         7         3"
    ∷ "     1     0         2         0         4"
    ∷ "     2     1         1         5         5"
    ∷ []))
    ∷ case (told (page_of (mixed_held 0) (one_step 3) 1)) (printed (
    "  step  link       cap protected       all"
    ∷ "     1     0        11        11        11"
    ∷ "     1     1        11         4         9"
    ∷ "tunnel  flow      hops       old       new"
    ∷ "     0     0         1         7         3"
    ∷ "     1     0         2         0         4"
    ∷ "     2     1         1         5         5"
    ∷ []))
    ∷ case (told (page_of growing (1 ∷ 3 ∷ 2 ∷ 1 ∷ 45 ∷ []) 1)) (printed (
    "  step  link       cap protected       all"
    ∷ "     1     0        60        45        45"
    ∷ "tunnel  flow      hops       old       new"
    ∷ "     0     0         1        10        20"
    ∷ []))
    ∷ case (told (page_of empty (1 ∷ 50 ∷ 1 ∷ 0 ∷ []) 1)) (printed (
    "  step  link       cap protected       all"
    ∷ "     1     0 500000000         0         0"
    ∷ "tunnel  flow      hops       old       new"
    ∷ []))
    -- 10 comes last, with the length needed
    ∷ case (told (with_room 300 (page_of mixed (one_step 3) 1))) (10 ∷ 301 ∷ 0 ∷ [])
    -- 11 comes before it
    ∷ case (told (with_room 0 (page_of mixed (one_step 3) 0))) (11 ∷ 0 ∷ 0 ∷ [])
    ∷ case (told (page_of mixed (one_step 3) 2)) (11 ∷ 2 ∷ 0 ∷ [])
    ∷ case (told (page_of swap two_steps 3)) (11 ∷ 3 ∷ 0 ∷ [])
    -- and the checker's refusals before that
    ∷ case (told (page_of swap (one_step 4) 0)) (7 ∷ 1 ∷ 0 ∷ [])
    ∷ case (told (page_of swap (one_step 3) 9)) (5 ∷ 4 ∷ 1 ∷ [])
    ∷ case (told (page_of [] two_steps 9)) (3 ∷ 1 ∷ 0 ∷ [])
    ∷ []

unfoldable pub same : List ℕ → List ℕ → Bool
same [] [] = true
same [] (y ∷ ys) = false
same (x ∷ xs) [] = false
same (x ∷ xs) (y ∷ ys) = eqb x y && same xs ys

unfoldable pub hold : List Case → Bool
hold [] = true
hold (e ∷ es) = same e.got e.said && hold es
