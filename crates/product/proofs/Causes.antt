-- The judges and the tests before the steps refuse by no overload: 7 and 8 come from the steps alone.
use Prim.Native.Nat.{ℕ, ◌+◌, ◌<◌}
use mathlib.Core.Path.{◌≡◌, refl}
use mathlib.Core.Logic.{◌⊎◌, inl, inr, ⊎_elim}
use mathlib.Core.Bool.{Bool, true, false, cond}
use mathlib.Core.List.{List, [], ◌∷◌, ◌++◌}
use mathlib.Core.Option.{Option, none, some, Option-elim}
use native.Mathlib.Omega.{arith}
use lib.Dec.{eqb, leb}
use Rattle.model.specs.Outcome.{Outcome, good, refused, and_then, number, unless, is_lag, Place}
use Rattle.model.specs.declared.Cause.{Cause}
use Rattle.model.specs.declared.Cause.TheVariants as causes
use Rattle.model.specs.Scan.{Bound, cause}
use Rattle.model.specs.Rule as rule
use Rattle.lists.specs.Lists.{network_of, plan_sizes, plan_of}
use Rattle.forms.specs.Form.{field_of, admits_of, second_of}
use Rattle.forms.specs.Read.{walk, on_field, judge_numbers, add_up}
use Rattle.forms.specs.Turns.{itself}
use Rattle.forms.specs.declared.form.Form.{Form}
use Rattle.forms.specs.declared.form.Form.TheVariants.{Network, Plan}
use Rattle.forms.specs.declared.form.Range.{Range}
use Rattle.forms.specs.declared.form.Key.{Key}
use Rattle.forms.specs.Form.{Field}
use Rattle.std.specs.declared.option.Option.TheVariants.{Some, None}
use Rattle.checker.specs.Check.{judge_rows, judge_pair, judged, verdict}
use Rattle.forms.specs.Named.{judge_network, judge_plan}

-- an outcome that is no refusal by 7 or 8
abbrev pub NotOver : {A : Type 0} → Outcome A → Type 0
NotOver (good a) = Unit {0}
NotOver (refused c place second) = (number c < 7) ⊎ (8 < number c)

-- what holds in each case holds of the whole
field-all : {A : Type 0} (f : Field) (o : Outcome A) (g : Key → Range → Outcome A) → NotOver o → ((k : Key) (r : Range) → NotOver (g k r)) → NotOver (on_field f o g)
field-all None o g h k = h
field-all (Some line) o g h k = k line.key line.range

value-all : {A : Type 0} (v : Option ℕ) (o : Outcome A) (g : ℕ → Outcome A) → NotOver o → ((k : ℕ) → NotOver (g k)) → NotOver (Option-elim v o g)
unfolding Option-elim
value-all none o g h k = h
value-all (some v) o g h k = k v

cond-all : {A : Type 0} (b : Bool) (o w : Outcome A) → NotOver o → NotOver w → NotOver (cond b o w)
cond-all true o w h k = h
cond-all false o w h k = k

then-all : {A B : Type 0} (o : Outcome A) (next : A → Outcome B) → NotOver o → ((a : A) → NotOver (next a)) → NotOver (and_then o next)
then-all (good a) next h k = k a
then-all (refused c place second) next h k = h

walk-all : (form : Form) (n : ℕ) (done xs : List ℕ) → NotOver (walk itself form n done xs)
unfolding walk Option-elim
walk-all form n done [] = field-all (field_of form done) (good done) (λ k r. refused causes.Missing n (second_of form)) tt (λ k r. inl (omega arith))
walk-all form n done (x ∷ xs) =
    field-all (field_of form done) (refused causes.Missing n (second_of form))
    (λ k r. cond (admits_of r x) (walk itself form (n + 1) (done ++ (x ∷ [])) xs) (refused causes.OutOfRange n (second_of form)))
    (inl (omega arith))
    (λ k r. cond-all (admits_of r x) (walk itself form (n + 1) (done ++ (x ∷ [])) xs) (refused causes.OutOfRange n (second_of form)) (walk-all form (n + 1) (done ++ (x ∷ [])) xs) (inl (omega arith)))

missed-all : (c : Cause) (l : List ℕ) (q : Option Place) → (number c < 7) ⊎ (8 < number c) → NotOver (unless c q (good l))
missed-all c l none h = tt
missed-all c l (some q) h = h

judged-network : (l : List ℕ) → NotOver (judge_network l)
unfolding judge_numbers add_up
judged-network l = then-all (judge_numbers Network l) (add_up Network) (walk-all Network 1 [] l) (λ g. missed-all causes.MissedRate g (rule.missed_rate (network_of g)) (inl (omega arith)))

judged-plan : (l : List ℕ) → NotOver (judge_plan l)
unfolding judge_numbers add_up
judged-plan l = then-all (judge_numbers Plan l) (add_up Plan) (walk-all Plan 1 [] l) (λ g. tt)

rows_all : (n p : List ℕ) → NotOver (judge_rows n p)
rows_all n p =
    cond-all (eqb (plan_sizes p).tunnels (network_of n).tunnels) (unless causes.MissedRow (rule.missed_row (network_of n) (plan_of p)) (good p)) (refused causes.OtherTunnels 4 1)
    (missed-all causes.MissedRow p (rule.missed_row (network_of n) (plan_of p)) (inl (omega arith)))
    (inl (omega arith))

pair-all : (n p : List ℕ) → NotOver (judge_pair n p)
pair-all n p =
    then-all (judge_network n) (λ m. and_then (judge_plan p) (judge_rows m)) (judged-network n) (λ m. then-all (judge_plan p) (judge_rows m) (judged-plan p) (rows_all m))

pub verdict-all : (w : ℕ) (n p : List ℕ) (room : ℕ) → NotOver (verdict w n p room)
verdict-all w n p room =
    cond-all (is_lag w) (judged w n p room) (refused causes.LagOutside w 0)
    (then-all (judge_pair n p) (λ q. cond (leb (network_of n).tunnels room) (good (rule.first_overload w (network_of n) (plan_of q))) (refused causes.NoRoom (network_of n).tunnels 0)) (pair-all n p) (λ q.
    cond-all (leb (network_of n).tunnels room) (good (rule.first_overload w (network_of n) (plan_of q))) (refused causes.NoRoom (network_of n).tunnels 0) tt (inr (omega arith))))
    (inr (omega arith))

-- so a refusal by 7 or 8 is an overload
pub over-number : (b : Bound) (k : ℕ) → k ≡ number (cause b) → (k < 7) ⊎ (8 < k) → ⊥
over-number Bound.protected k e h = ⊎_elim (λ w. omega arith) (λ w. omega arith) h
over-number Bound.total k e h = ⊎_elim (λ w. omega arith) (λ w. omega arith) h

pub same-bound : (b w : Bound) → number (cause b) ≡ number (cause w) → b ≡ w
same-bound Bound.protected Bound.protected e = refl
same-bound Bound.protected Bound.total e = absurd (omega arith)
same-bound Bound.total Bound.protected e = absurd (omega arith)
same-bound Bound.total Bound.total e = refl
