-- `planner::steps::fewest_steps` meets its contract: no even plan of fewer steps is accepted, and this one keeps both bounds on the links passed.
use Prim.Native.Nat.{ℕ, suc}
use mathlib.Core.Path.{◌≡◌, sym, ap, ◌∙◌}
use mathlib.Core.List.{List}
use native.Mathlib.Omega.{arith}
use Rattle.model.specs.Limits.{most_steps}
use Rattle.lists.specs.Lists.{network_of}
use Rattle.planner.specs.Search.{answered}
use Rattle.planner.proofs.Searching.{none-fewer, fewer-on, fewest-at, fewest-none, kept-next, all-kept}
use Rattle.planner.proofs.steps.fewest_steps.Goals as goal
use Rattle.planner.proofs.steps.fewest_steps.Goals.{After-links-link-end}

count : (c : After-links-link-end) → c.links-link-end.result ≡ (network_of c.args.sums.now).links
count c = c.links-link-end.ensures.value ∙ ap (λ (l : List ℕ). (network_of l).links) c.network.ensures.value

pub returns-in_err-q : goal.returns-in_err-q
returns-in_err-q c =
    let i = c.loop-link.invariant in
    let n = c.fewest_on.ensures.none c.in_err-q.was in
    c.from_residual.ensures
    ∙ sym (ap answered (fewest-none _ _ (fewer-on _ _ _ (suc most_steps) c.loop-link.link i.fewer c.network.ensures.good.sums (omega (arith, c.loop-link-test.true, count ((goal.at.returns-in_err-q c).After-links-link-end))) (λ k a b. n k a (omega arith)) (omega (arith, i.most)))))

pub loop-link-init : goal.loop-link-init
loop-link-init c = record { most = omega arith; fewer = none-fewer _ _; kept = record { each = λ l h b. absurd (omega arith) } }

pub loop-link-preserved : goal.loop-link-preserved
loop-link-preserved c =
    let i = c.loop-link.invariant in
    let was = c.in_ok-q.was in
    let f = c.fewest_on.ensures in
    let m = f.most _ was in
    record {
      most = m.1;
      fewer = fewer-on _ _ _ _ c.loop-link.link i.fewer c.network.ensures.good.sums (omega (arith, c.loop-link-test.true, count ((goal.at.loop-link-preserved c).After-links-link-end))) (λ k a b. f.below _ k was a b) m.0;
      kept = kept-next _ _ _ _ _ (omega (arith, i.fewer.least)) m.0 i.kept (f.kept _ was);
    }

pub returns : goal.returns
returns c =
    let i = c.loop-link.invariant in
    sym (ap answered (fewest-at _ _ _ i.fewer i.most (all-kept _ _ _ _ c.network.ensures.good.sums (omega (arith, c.loop-link-test.false, count ((goal.at.returns c).After-links-link-end))) i.kept)))
