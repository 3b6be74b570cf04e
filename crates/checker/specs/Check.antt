-- What the checker comes to.
use Rattle.std.specs.Prelude.{ℕ, eqb, leb, drop, cond, List, ◌++◌, Result, Ok, Err}
use Rattle.std.proofs.Math.Option.{Option, none, some}
use Rattle.model.specs.Outcome.{Outcome, good, refused, and_then, number, unless, at_lag}
use Rattle.model.specs.declared.Cause.TheVariants.{OtherTunnels as other_tunnels, MissedRow as missed_row, NoRoom as no_room}
use Rattle.model.specs.Scan.{Overload, cause, step}
use Rattle.model.specs.Rule.{first_overload, mark}
use Rattle.model.specs.Rule as rule
use Rattle.model.specs.Listed.{listed}
use Rattle.lists.specs.Lists.{network_of, plan_sizes, plan_of}
use Rattle.lists.specs.Refusals.{refusal}
use Rattle.lists.specs.declared.refusal.Refusal.{Refusal}
use Rattle.lists.specs.declared.Answer.{Answer}
use Rattle.lists.specs.declared.Answer.TheVariants.{Done, Refused}
use Rattle.forms.specs.Read.{judge_list}
use Rattle.forms.specs.declared.form.Form.TheVariants as forms

-- "plan has another `tunnels` than the network | 5 | 4; 1"; "a row misses parts × rate | 6 | row; flow"
abbrev pub judge_rows : List ℕ → List ℕ → Outcome (List ℕ)
judge_rows n p = cond (eqb (plan_sizes p).tunnels (network_of n).tunnels) (unless missed_row (rule.missed_row (network_of n) (plan_of p)) (good p)) (refused other_tunnels 4 1)

-- "The checker reads the whole network first, then the whole plan, then 5, 6 (lowest row, then flow)"
abbrev pub judge_pair : List ℕ → List ℕ → Outcome (List ℕ)
judge_pair network plan = and_then (judge_list forms.Network network) (λ n. and_then (judge_list forms.Plan plan) (judge_rows n))

-- "10 for the marks. Then it goes through steps ascending, within a step links ascending, 7 before 8"
abbrev pub judged : ℕ → List ℕ → List ℕ → ℕ → Outcome (Option Overload)
judged w n plan room = and_then (judge_pair n plan) (λ p. cond (leb (network_of n).tunnels room) (good (first_overload w (network_of n) (plan_of p))) (refused no_room (network_of n).tunnels 0))

-- at a lag of w, which is "tested before all else"
abbrev pub verdict : ℕ → List ℕ → List ℕ → ℕ → Outcome (Option Overload)
verdict w n plan room = at_lag w (judged w n plan room)

-- ---- the answer and the marks

-- done carries the length of the marks, which is `tunnels`; an overload is a refusal with its step and link
abbrev pub checked : List ℕ → Outcome (Option Overload) → Answer
checked n (good none) = Done (network_of n).tunnels
checked n (good (some o)) = Refused (number (cause o.bound)) (step o) o.link
checked n (refused c place second) = Refused (number c) place second

-- the same, as the code has it inside
abbrev pub checked_count : List ℕ → Outcome (Option Overload) → Result ℕ Refusal
checked_count n (good none) = Ok (network_of n).tunnels
checked_count n (good (some o)) = Err (refusal (cause o.bound) (step o) o.link)
checked_count n (refused c place second) = Err (refusal c place second)

-- "Marks are one byte for each tunnel. .. After acceptance all are 0. After 7 or 8 a tunnel is 1 exactly if it crosses the named link and its amount rises in the named step": with a
-- lag of w, "a mark falls where the largest exceeds that of row a"
abbrev pub marks_after : ℕ → List ℕ → List ℕ → Outcome (Option Overload) → List ℕ → List ℕ
marks_after w n p (good none) marks = listed (network_of n).tunnels (λ t. 0) ++ drop (network_of n).tunnels marks
marks_after w n p (good (some o)) marks = listed (network_of n).tunnels (λ t. cond (mark w (network_of n) (plan_of p) o t) 1 0) ++ drop (network_of n).tunnels marks
marks_after w n p (refused c place second) marks = marks
