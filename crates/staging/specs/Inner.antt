-- What the inner functions of the code ask for and give.
use Rattle.std.specs.Prelude.{ℕ, ◌-◌, ◌*◌, ◌≤◌, ◌≡◌, Bool, cond, List, eqb, length}
use Rattle.std.specs.Bool.{beq}
use Rattle.model.specs.Limits.{most_tunnels}
use Rattle.lists.specs.Lists.{at}
use Rattle.rules.specs.Rules.{Rules, add, last_stage}
use Rattle.rules.specs.Stage.{Move, adds, removes, kind_of, Stages, moved, waits, stages}
use Rattle.rules.specs.Lists.{rules_of, GoodRules}
use Rattle.switches.specs.Inner.{Counted, Spares}

-- ---- a pass

-- the move of a kind
unfoldable pub move_of : ℕ → Move
move_of kind = cond (eqb kind add) adds removes

-- those that a move's test counts: "added so far", "remaining"
unfoldable pub counts : Rules → Move → Stages → ℕ → Bool
counts R adds f = moved R adds f
counts R removes f = waits R removes f

-- how often X its bound is: "i × X", "(k - i) × X"
unfoldable pub times_of : Rules → Move → ℕ → ℕ
times_of R adds i = i
times_of R removes i = last_stage R - i

pub record IsPass (R : Rules) (kind stage times unit : ℕ) : Type 0 where
  pub moves : kind ≡ kind_of (move_of kind)
  pub inside : (1 ≤ stage) × (stage ≤ last_stage R)
  pub bound : times ≡ times_of R (move_of kind) stage
  pub scale : unit ≡ 1000 * last_stage R

-- a tunnel to add goes where there is room, one to remove where there is not
unfoldable pub goes_by : ℕ → Bool → Bool
goes_by kind b = beq b (eqb kind add)

-- what a turn and a pass start from: good tables, the spares, the stages so far in o, and the counts of the kind that moves in c
pub record Ready (l x : List ℕ) (kind stage times unit : ℕ) (c o : List ℕ) : Type 0 where
  pub good : GoodRules l
  pub spares : Spares (rules_of l) x
  pub pass : IsPass (rules_of l) kind stage times unit
  pub counted : Counted (rules_of l) (rules_of l).tunnels (counts (rules_of l) (move_of kind) (at o)) c
  pub size : length o ≡ most_tunnels

-- the stages g, in o, with their counts in c
pub record Reached (l : List ℕ) (m : Move) (g : Stages) (c o : List ℕ) : Type 0 where
  pub counted : Counted (rules_of l) (rules_of l).tunnels (counts (rules_of l) m (at o)) c
  pub size : length o ≡ most_tunnels
  pub stages : at o ≡ g

-- the stages 1 to i are in o, with the counts of those added in a and of those remaining in r
pub record StagedTo (l : List ℕ) (i : ℕ) (a r o : List ℕ) : Type 0 where
  pub added : Counted (rules_of l) (rules_of l).tunnels (counts (rules_of l) adds (at o)) a
  pub remaining : Counted (rules_of l) (rules_of l).tunnels (counts (rules_of l) removes (at o)) r
  pub size : length o ≡ most_tunnels
  pub stages : at o ≡ stages (rules_of l) i
