-- The parts of a list whose ranges are looked at in one loop each. Those of a network's body stand in lists:Good.
use Rattle.std.specs.Prelude.{ℕ, ◌+◌, ◌≤◌, ◌<◌, ◌≡◌, Bool, true, false, List, T, length, get_or, None}
use Rattle.model.specs.Limits.{most_tunnels, most_switches, most_room}
use Rattle.lists.specs.Lists.{at, plan_sizes, row_at, table_sizes, room_at, rule_at, tables_size}
use Rattle.forms.specs.Form.{Field, network_lines, plan_lines, rules_lines, admits_of, allows}
use Rattle.forms.specs.declared.form.Form.{Form}
use Rattle.forms.specs.declared.form.Form.TheVariants.{Network, Plan, Rules}
use Rattle.forms.specs.declared.form.Range.TheVariants.{Set}

-- a test that says exactly whether something holds
pub record Decides (answer : Bool) (X : Type 0) : Type 0 where
  pub yes : answer ≡ true → X
  pub no : answer ≡ false → X → ⊥

-- ---- the head

-- those of a network depend on its edition
abbrev pub head_lines : Form → ℕ → List Field
head_lines Network edition = network_lines edition
head_lines Plan edition = plan_lines
head_lines Rules edition = rules_lines

-- the first so many numbers are in their ranges
pub record HeadIn (form : Form) (l : List ℕ) (n : ℕ) : Type 0 where
  pub each : (i : ℕ) → i < n → T (allows (get_or (head_lines form (at l 0)) i None) (at l i))

-- a list that has a network's head
pub record NetworkHead (l : List ℕ) : Type 0 where
  pub long : length (network_lines (at l 0)) ≤ length l
  pub head : HeadIn Network l (length (network_lines (at l 0)))

-- ---- a plan

-- the amounts before a position are in their range
pub record AmountsIn (l : List ℕ) (high n : ℕ) : Type 0 where
  pub amount : (i : ℕ) → row_at (plan_sizes l) 1 ≤ i → i < n → at l i ≤ high

-- ---- rule tables

-- a list that is as long as its own counts say, and those are within the limits
pub record TablesSized (l : List ℕ) : Type 0 where
  pub switches : (table_sizes l).switches ≤ most_switches
  pub tunnels : (table_sizes l).tunnels ≤ most_tunnels
  pub size : length l ≡ tables_size (table_sizes l)

-- the numbers of the first so many switches or tunnels are in their ranges
pub record RoomsIn (l : List ℕ) (count : ℕ) : Type 0 where
  pub room : (s : ℕ) → s < count → at l (room_at (table_sizes l) s) ≤ most_room

pub record RulesIn (l : List ℕ) (count : ℕ) : Type 0 where
  pub via : (t : ℕ) → t < count → T (admits_of (Set (table_sizes l).switches) (at l (rule_at (table_sizes l) t)))
  pub least : (t : ℕ) → t < count → 1 ≤ at l (rule_at (table_sizes l) t + 1)
  pub most : (t : ℕ) → t < count → at l (rule_at (table_sizes l) t + 1) ≤ 3
