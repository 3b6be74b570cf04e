-- "A page for the change board": one step of an accepted plan. The step that the paper numbers i + 1 leads from row i and is named here by i, as in the model.
use Rattle.std.specs.Prelude.{ℕ, suc, ◌-◌, ◌*◌, cond, ◌&&◌, leb}
use mathlib.Core.List.{List, [], ◌∷◌, ◌++◌, flat_map}
use Rattle.std.proofs.Math.Option.{Option, none, some}
use Rattle.std.specs.Int.Count.{ones}
use Rattle.model.specs.Listed.{listed}
use Rattle.model.specs.Net.{Net, Plan}
use Rattle.model.specs.Outcome.{Outcome, good, refused, and_then}
use Rattle.model.specs.declared.Cause.TheVariants.{NoSuchStep as no_such_step}
use Rattle.model.specs.Rule.{first_overload}
use Rattle.model.specs.Scan.{protected, total, Overload, cause, step}
use Rattle.lists.specs.Lists.{network_of, plan_of}
use Rattle.forms.specs.Bytes.{bytes}
use Rattle.checker.specs.Check.{judge_pair}
use Rattle.step_loads.specs.Worst.{worst_load}
use Rattle.fields.specs.Columns.{line, numbers}

-- "hops (the number of links it crosses)": "count of ones of the via set"
unfoldable pub hops : Net → ℕ → ℕ
hops N t = ones (N.via t)

-- ---- the page, a list of lines of fields

-- "Headings are `step link cap protected all` and `tunnel flow hops old new`, aligned alike."
unfoldable pub link_heading : List (List ℕ)
link_heading = bytes "step" ∷ bytes "link" ∷ bytes "cap" ∷ bytes "protected" ∷ bytes "all" ∷ []

unfoldable pub tunnel_heading : List (List ℕ)
tunnel_heading = bytes "tunnel" ∷ bytes "flow" ∷ bytes "hops" ∷ bytes "old" ∷ bytes "new" ∷ []

-- "a line for each link: step, link, cap × parts, worst protected, worst of all"
unfoldable pub link_fields : Net → Plan → ℕ → ℕ → List (List ℕ)
link_fields N P i l = numbers (suc i) l (P.parts * N.cap l) (worst_load N P i l protected) (worst_load N P i l total)

-- "a line for each tunnel: tunnel, flow, hops (the number of links it crosses), `old`, `new`, in the same widths"
unfoldable pub tunnel_fields : Net → ℕ → List (List ℕ)
tunnel_fields N t = numbers t (N.flow t) (hops N t) (N.old t) (N.new t)

-- "a heading line and a line for each link"; "A second block has a heading and a line for each tunnel"
unfoldable pub page_fields : Net → Plan → ℕ → List (List (List ℕ))
page_fields N P i = (link_heading ∷ listed N.links (link_fields N P i)) ++ (tunnel_heading ∷ listed N.tunnels (tunnel_fields N))

unfoldable pub page : Net → Plan → ℕ → List ℕ
unfolding flat_map
page N P i = flat_map line (page_fields N P i)

-- ---- what is refused

-- "11: step below 1 or above `steps` ..; place the step, second 0"
unfoldable pub step_page : Net → Plan → ℕ → Outcome (List ℕ)
step_page N P s = cond (leb 1 s && leb s P.steps) (good (page N P (s - 1))) (refused no_such_step s 0)

-- a refusal for an overload, or what comes after
abbrev pub unless_over : {A : Type 0} → Option Overload → Outcome A → Outcome A
unless_over none next = next
unless_over (some o) next = refused (cause o.bound) (step o) o.link

-- "after the checker's refusals and before 10". "The page lends no marks", so the checker's 10 is not among them
unfoldable pub page_of : List ℕ → List ℕ → ℕ → Outcome (List ℕ)
page_of n plan s = and_then (judge_pair n plan) (λ p. unless_over (first_overload 1 (network_of n) (plan_of p)) (step_page (network_of n) (plan_of p) s))
