-- What the inner functions of the code ask for and give.
use Rattle.std.specs.Prelude.{ℕ, ◌+◌, ◌*◌, ◌≤◌, ◌<◌, ◌≡◌, Bool, true, cond, not, ◌||◌, List, leb, ltb, length, Result, Ok, Err, Some, None, ⊤}
use Rattle.std.specs.declared.option.Option as code
use Rattle.std.proofs.Math.Option.{Option, none, some}
use Rattle.model.specs.Limits.{most_tunnels, most_switches, most_room}
use Rattle.model.specs.Sum.{sum_over}
use Rattle.model.specs.Sets.{in_set}
use Rattle.model.specs.Outcome.{Place}
use Rattle.model.specs.declared.Cause.TheVariants.{Unfit as unfit}
use Rattle.lists.specs.Lists.{at}
use Rattle.lists.specs.declared.refusal.Refusal.{Refusal}
use Rattle.lists.specs.Refusals.{refusal}
use Rattle.rules.specs.Rules.{Rules, keep, add, remove, is_kind, rule, spare}
use Rattle.rules.specs.Stage.{every, lowest_unfit}
use Rattle.rules.specs.Lists.{rules_of}

-- ---- a number for each switch that there can be

pub record Table (b : ℕ) (c : List ℕ) : Type 0 where
  pub size : length c ≡ most_switches
  pub most : (s : ℕ) → s < most_switches → at c s ≤ b

-- the counts of those of the first n tunnels that a test picks
pub record Counted (R : Rules) (n : ℕ) (p : ℕ → Bool) (c : List ℕ) : Type 0 where
  pub size : length c ≡ most_switches
  pub each : (s : ℕ) → s < most_switches → at c s ≡ sum_over n p (rule R s)

-- the counts of all tunnels of a kind
abbrev pub OfKind : List ℕ → ℕ → List ℕ → Type 0
OfKind l kind c = Counted (rules_of l) (rules_of l).tunnels (is_kind (rules_of l) kind) c

pub record Kinds (l kept adding removing : List ℕ) : Type 0 where
  pub keeps : OfKind l keep kept
  pub enters : OfKind l add adding
  pub leaves : OfKind l remove removing

-- the table c' is c with `more` added and `less` taken off at the switches of a set
pub record Shifted (via more less : ℕ) (c c' : List ℕ) : Type 0 where
  pub size : length c' ≡ length c
  pub each : (s : ℕ) → s < most_switches → at c' s + cond (in_set via s) less 0 ≡ at c s + cond (in_set via s) more 0

-- what a table of counts that is shifted must have room for
pub record Shiftable (via more less : ℕ) (c : List ℕ) : Type 0 where
  pub table : Table most_tunnels c
  pub small : more ≤ 1
  pub enough : (s : ℕ) → s < most_switches → in_set via s ≡ true → less ≤ at c s + more

-- the spare of each switch
pub record Spares (R : Rules) (x : List ℕ) : Type 0 where
  pub table : Table (1000 * most_room) x
  pub each : (s : ℕ) → s < R.switches → at x s ≡ spare R s

-- at each switch of a set, `unit` times the count, with `more`, is at most `times` what is spare
unfoldable pub fits_all : ℕ → ℕ → ℕ → ℕ → List ℕ → List ℕ → Bool
fits_all via unit more times c x = every most_switches (λ s. not (in_set via s) || leb (unit * (at c s + more)) (times * at x s))

-- ---- refusal 18

-- the second of the refusal at a switch, if there is one
unfoldable pub unfit_by : ℕ → ℕ → ℕ → ℕ → code.Option ℕ
unfit_by usable kept removing adding = cond (ltb usable (1000 * (kept + removing))) (Some 0) (cond (ltb usable (1000 * (kept + adding))) (Some 1) None)

abbrev pub told : Option Place → Result ⊤ Refusal
told none = Ok tt
told (some p) = Err (refusal unfit p.place p.second)

-- a is the refusal that is due, or the spares are there
pub record Judged (l : List ℕ) (a : Result ⊤ Refusal) (x : List ℕ) : Type 0 where
  pub answer : a ≡ told (lowest_unfit (rules_of l))
  pub spares : lowest_unfit (rules_of l) ≡ none → Spares (rules_of l) x
