-- `planner::steps::first_overload` meets its contract.
use Prim.Native.Nat.{ℕ}
use mathlib.Core.Path.{◌≡◌, refl, sym, ap, ap₂, subst, ◌∙◌}
use mathlib.Core.List.{List}
use native.Mathlib.Omega.{arith}
use Rattle.std.specs.Prelude.{Err}
use Rattle.model.specs.Limits.{most_steps}
use Rattle.model.specs.Rule.{worst_over}
use Rattle.model.specs.Even.{even}
use Rattle.model.proofs.Searches.{first-zero}
use Rattle.model.proofs.Scans.{step-on}
use Rattle.lists.specs.Lists.{network_of}
use Rattle.model.specs.declared.Cause.TheVariants.{NoEvenPlan}
use Rattle.planner.proofs.Searching.{steps_kept, windows, links_kept, links-on, stuck-here, stuck-nowhere}
use Rattle.planner.proofs.steps.first_overload.Goals as goal
use Rattle.planner.proofs.steps.first_overload.Goals.{After-links-links}

same : (c : After-links-links) → c.links-links.result ≡ (network_of c.args.sums.now).links
same c = c.links-links.ensures.value ∙ ap (λ (l : List ℕ). (network_of l).links) c.network.ensures.value

pub steps-init : goal.steps-init
steps-init c = record { none = (refl, refl); kept = first-zero _ }

pub loop-link-init : goal.loop-link-init
loop-link-init c = record { none = c.steps.invariant.none; kept = first-zero _ }

pub loop-link-preserved : goal.loop-link-preserved
loop-link-preserved c = record { none = c.loop-link.invariant.none; kept = links-on _ _ _ c.loop-link.link c.loop-link.invariant.kept (sym c.is_over_in.ensures ∙ c.if-is_over_in.false) }

pub steps-preserved : goal.steps-preserved
steps-preserved c = let a = c.args in
    let N = network_of a.sums.now in
    let s = c.steps in
    let e : c.loop-link.link ≡ N.links = omega (arith, c.loop-link.auto, c.loop-link-test.false, same ((goal.at.steps-preserved c).After-links-links)) in
    record {
      none = c.loop-link.invariant.none;
      kept = step-on (windows a.lag) N.links (worst_over a.lag N (even N most_steps)) s.row s.invariant.kept (subst (links_kept a.lag N s.row) e c.loop-link.invariant.kept);
    }

pub returns-after-steps : goal.returns-after-steps
returns-after-steps c = let a = c.args in
    let N = network_of a.sums.now in
    let s = c.steps in
    let e : s.row ≡ windows a.lag = omega (arith, s.auto, c.steps-test.false) in
    ap₂ (λ (p n : ℕ). Err (record { cause = NoEvenPlan; place = p; second = n })) s.invariant.none.0 s.invariant.none.1 ∙ stuck-nowhere a.lag N (subst (steps_kept a.lag N) e s.invariant.kept)

pub returns-then-is_over_in : goal.returns-then-is_over_in
returns-then-is_over_in c = let a = c.args in
    let N = network_of a.sums.now in
    let s = c.steps in
    let i = c.loop-link in
    stuck-here a.lag N s.row i.link s.invariant.kept i.invariant.kept (sym c.is_over_in.ensures ∙ c.if-is_over_in.true) (omega (arith, c.steps-test.true)) (omega (arith, c.loop-link-test.true, same ((goal.at.returns-then-is_over_in c).After-links-links)))
