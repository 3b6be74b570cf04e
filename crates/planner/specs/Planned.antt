-- What the planner comes to, for every list.
use Rattle.std.specs.Prelude.{ℕ, suc, ◌-◌}
use mathlib.Core.List.{List, [], ◌∷◌, ◌++◌, flatten}
use Rattle.std.proofs.Math.Option.{Option, Option-elim}
use Rattle.model.specs.Outcome.{Outcome, good, refused}
use Rattle.model.specs.declared.Cause.TheVariants.{NoEvenPlan as no_even_plan}
use Rattle.model.specs.Net.{Net}
use Rattle.model.specs.Scan.{Overload, step}
use Rattle.model.specs.Even.{even_row, fewest, even}
use Rattle.model.specs.Listed.{listed}
use Rattle.lists.specs.Lists.{network_of}
use Rattle.model.specs.Outcome.{and_then, at_lag}
use Rattle.model.specs.Limits.{most_steps}
use Rattle.model.specs.Rule.{first_overload}
use Rattle.forms.specs.Read.{judge_list}
use Rattle.forms.specs.declared.form.Form.TheVariants as forms

-- "`plan` 1; `parts` 1..50; `steps` 1..50; `tunnels` 0..96; then for each row 1 to steps-1, for each tunnel, `at`", where "the even plan of q steps has parts = q"
unfoldable pub even_list : Net → ℕ → List ℕ
even_list N q = (1 ∷ q ∷ q ∷ N.tunnels ∷ []) ++ flatten (listed (q - 1) (λ i. listed N.tunnels (even_row N q (suc i))))

-- "no even plan of 1 to 50 steps is accepted | 9 | where the 50-step plan first overloads: step; link". It overloads somewhere: `nine` of Claim.antt
unfoldable pub stuck : Option Overload → Outcome (List ℕ)
stuck o = Option-elim o (refused no_even_plan 0 0) (λ o. refused no_even_plan (step o) o.link)

-- "The planner fills a plan list": the even plan of fewest steps at a lag of w, or refusal 9
unfoldable pub even_plan : ℕ → Net → Outcome (List ℕ)
even_plan w N = Option-elim (fewest w N) (stuck (first_overload w N (even N most_steps))) (λ q. good (even_list N q))

-- the planner's whole outcome, where w is given as the lag: "lag outside 1..4, tested before all else". "Writers, planner and checker take lists and judge them
-- by the same rules": the judge's refusal is passed on
unfoldable pub planned : ℕ → List ℕ → Outcome (List ℕ)
planned w l = at_lag w (and_then (judge_list forms.Network l) (λ g. even_plan w (network_of g)))
