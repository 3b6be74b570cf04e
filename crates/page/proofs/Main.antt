-- The claim of the page holds.
use Prim.Native.Nat.{ℕ, suc, ◌-◌, ◌≤◌, ◌<◌}
use mathlib.Core.Path.{◌≡◌, refl, ap, ◌∙◌}
use mathlib.Core.List.{List}
use mathlib.Core.Option.{Option, none, some}
use native.Mathlib.Omega.{arith}
use Rattle.model.specs.Outcome.{Outcome, good}
use Rattle.model.specs.Rule.{worst_over, first_overload}
use Rattle.model.specs.Scan.{Overload}
use Rattle.model.proofs.Outcomes.{good-refused, then-good}
use Rattle.model.proofs.Today.{overload-today}
use Rattle.lists.specs.Lists.{network_of, plan_sizes, plan_of}
use Rattle.checker.specs.Check.{judge_pair, verdict}
use Rattle.checker.specs.Claim.{Reaches}
use Rattle.checker.proofs.Pairs.{pair-good}
use Rattle.checker.proofs.Main.{weighed}
use Rattle.step_loads.specs.Worst.{worst_load}
use Rattle.page.specs.Page.{page, step_page, unless_over, page_of}
use Rattle.page.specs.Claim.{Laid, Claim}
use Rattle.page.specs.Inner.{Accepted}
use Rattle.page.proofs.Sizes.{link-protected, link-total}
use Rattle.page.proofs.Pages.{page-length, page-lines}
use Rattle.page.proofs.Answers.{step_in, step_given, by-verdict, after-pass}
use Rattle.page.proofs.Crossed.{hops-crossed}

laid : (n p : List ℕ) → Accepted n p → (i : ℕ) → i < (plan_sizes p).steps → Laid (network_of n) (plan_of p) i
unfolding network_of
laid n p g i hi = record {
  lines = page-lines n p g i hi;
  size = page-length n p g i hi;
  protected = λ l h. link-protected n p g i hi l h;
  all = λ l h. link-total n p g i hi l h;
  hops = λ t h. hops-crossed (network_of n) t (g.both.network.ranges.tunnels.via t h).1;
}

-- no overload, where a page is given
none_over : {A : Type 0} (o : Option Overload) (next : Outcome A) (a : A) → unless_over o next ≡ good a → (o ≡ none) × (next ≡ good a)
none_over none next a e = (refl, e)
none_over (some o) next a e = absurd (good-refused a _ _ _ e)

-- what a page tells of the lists and of the step
module _ (n p : List ℕ) (s : ℕ) (t : List ℕ) (e : page_of n p s ≡ good t) where
  told : (Accepted n p) × (verdict 1 n p (network_of n).tunnels ≡ good none) × (1 ≤ s) × (s ≤ (plan_of p).steps) × (t ≡ page (network_of n) (plan_of p) (s - 1))
  unfolding page_of network_of
  told =
      let a = then-good (judge_pair n p) (λ q. unless_over (first_overload 1 (network_of n) (plan_of q)) (step_page (network_of n) (plan_of q) s)) t e in
      let j = pair-good n p a.0 a.1 in
      let w : unless_over (first_overload 1 (network_of n) (plan_of p)) (step_page (network_of n) (plan_of p) s) ≡ good t = rw j.same at a.2 in
      let o = none_over (first_overload 1 (network_of n) (plan_of p)) (step_page (network_of n) (plan_of p) s) t w in
      let g = step_given (network_of n) (plan_of p) s t o.1 in
      let r : Reaches 1 n p (network_of n).tunnels = record { lag = refl; network = j.network; plan = j.plan; tunnels = j.checkable.tunnels; rows = j.rows; room = omega arith } in
      (record { both = j.checkable; kept = o.0 }, weighed 1 n p (network_of n).tunnels r ∙ ap good o.0, g.0, g.1, g.2)

pub claim : Claim
unfolding worst_over worst_load plan_of
claim = record {
  given = λ n p room i e h.
      let same : suc i - 1 ≡ i = omega arith in
      after-pass n p room e (suc i)
      ∙ step_in (network_of n) (plan_of p) (suc i) (omega arith) (omega (arith, h))
      ∙ ap (λ (j : ℕ). good (page (network_of n) (plan_of p) j)) same;
  laid = λ n p s t e.
      let d = told n p s t e in
      let low : s - 1 < (plan_sizes p).steps = omega (arith, d.2, d.3) in
      (s - 1, omega (arith, d.2), omega (arith, low), d.1, d.4, laid n p d.0 (s - 1) low);
  checked = λ n p s room h. by-verdict n p s room (λ q j. h);
  compared = λ N P h. overload-today N P h;
}
