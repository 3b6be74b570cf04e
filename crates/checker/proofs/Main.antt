-- The claim of the checker holds.
use Prim.Native.Nat.{ℕ}
use mathlib.Core.Path.{◌≡◌, sym, ap, ◌∙◌}
use mathlib.Core.Bool.{cond}
use mathlib.Core.List.{List}
use mathlib.Core.Option.{Option, none, some}
use borrow.Author.Tests.{leb-true, le-leb, eq-eqb}
use lib.Dec.{leb}
use Rattle.model.specs.Outcome.{good, refused, is_lag}
use Rattle.model.specs.declared.Cause.TheVariants.{NoRoom as no_room}
use Rattle.model.specs.Scan.{Overload}
use Rattle.model.specs.Rule.{first_overload}
use Rattle.model.proofs.Outcomes.{then-good, cond-good, good-same}
use Rattle.model.proofs.Choices.{none_kept, kept-none, safe, marked-overloads, found}
use Rattle.lists.specs.Lists.{network_of, plan_sizes, plan_of}
use Rattle.checker.specs.Check.{judge_pair, judged, verdict}
use Rattle.checker.specs.Claim.{Reaches, Checker}
use Rattle.checker.proofs.Pairs.{pair-good}

-- what a verdict on the steps tells
reached : (w : ℕ) (n p : List ℕ) (room : ℕ) (x : Option Overload) → verdict w n p room ≡ good x → Reaches w n p room × (first_overload w (network_of n) (plan_of p) ≡ x)
unfolding network_of
reached w n p room x e =
    let k = cond-good (is_lag w) (judged w n p room) _ w 0 x e in
    let a = then-good (judge_pair n p) (λ q. cond (leb (network_of n).tunnels room) (good (first_overload w (network_of n) (plan_of q))) (refused no_room (network_of n).tunnels 0)) x k.1 in
    let j = pair-good n p a.0 a.1 in
    let f = cond-good (leb (network_of n).tunnels room) (good (first_overload w (network_of n) (plan_of a.0))) _ (network_of n).tunnels 0 x a.2 in (
      record { lag = k.0; network = j.network; plan = j.plan; tunnels = j.checkable.tunnels; rows = j.rows; room = leb-true (network_of n).tunnels room f.0 },
      ap (λ (q : List ℕ). first_overload w (network_of n) (plan_of q)) (sym j.same) ∙ good-same _ _ f.1,
    )

-- and what reaches the steps gets their verdict
pub weighed : (w : ℕ) (n p : List ℕ) (room : ℕ) → Reaches w n p room → verdict w n p room ≡ good (first_overload w (network_of n) (plan_of p))
weighed w n p room r = simp (r.lag, r.network, r.plan, eq-eqb (plan_sizes p).tunnels (network_of n).tunnels r.tunnels, r.rows, le-leb (network_of n).tunnels room r.room)

pub checker : Checker
checker = record {
  done = λ w n p room. (
    λ e. let r = reached w n p room none e in (r.0, none_kept w (network_of n) (plan_of p) r.1),
    λ h. weighed w n p room h.0 ∙ ap good (kept-none w (network_of n) (plan_of p) h.1),
  );
  safe = λ w n p room e. safe w (network_of n) (plan_of p) (reached w n p room none e).1;
  shown = λ w n p room o e. marked-overloads w (network_of n) (plan_of p) o (reached w n p room (some o) e).1;
  found = λ w n p room r i l hi hl c b e. let f = found w (network_of n) (plan_of p) i l hi hl c b e in (f.0, weighed w n p room r ∙ ap good f.1);
}
