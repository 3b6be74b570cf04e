-- Demand 2 holds, of plans.
use Prim.Native.Nat.{ℕ, ◌≤◌}
use mathlib.Core.Path.{◌≡◌, refl, sym, ap, ◌∙◌}
use mathlib.Core.Logic.{◌↔◌, ⊎_elim}
use mathlib.Core.Bool.{Bool, true, false, cond, true≢false}
use mathlib.Core.List.{List}
use native.Mathlib.Omega.{arith}
use lib.Dec.{leb}
use lib.ListN.{length}
use Rattle.model.specs.Limits.{most_steps}
use Rattle.model.specs.Outcome.{Outcome, good, refused, number, is_lag}
use Rattle.model.specs.declared.Cause.{Cause}
use Rattle.model.specs.declared.Cause.TheVariants.{NoEvenPlan as no_even_plan}
use Rattle.model.specs.declared.Cause.TheVariants as causes
use Rattle.model.specs.Scan.{step}
use Rattle.model.specs.Rule.{first_overload, accepted}
use Rattle.model.specs.Even.{even}
use Rattle.model.proofs.Searches.{bool_cases}
use Rattle.model.proofs.Outcomes.{good-same}
use Rattle.model.proofs.Rows.{accepted-both, even-adds-up}
use Rattle.lists.specs.Lists.{network_of}
use Rattle.lists.specs.Answers.{with_room, plan}
use Rattle.lists.specs.declared.Answer.TheVariants.{Refused}
use Rattle.forms.specs.Named.{judge_network}
use Rattle.forms.proofs.Good.{good-network}
use Rattle.planner.specs.Planned.{even_list, planned}
use Rattle.planner.proofs.Main as planner
use Rattle.checker.specs.Check.{verdict, checked}
use Rattle.checker.proofs.Main.{checker, weighed}
use Rattle.product.specs.Demand2.{Accepts, NoneAccepted, Demand2}
use Rattle.product.proofs.Main as main

-- ---- an even plan as a list

module _ (w : ℕ) (lag : is_lag w ≡ true) (n : List ℕ) (room : ℕ) (j : judge_network n ≡ good n) (h : (network_of n).tunnels ≤ room) where
  even-verdict : (q : ℕ) → 1 ≤ q → q ≤ most_steps → verdict w n (even_list (network_of n) q) room ≡ good (first_overload w (network_of n) (even (network_of n) q))
  even-verdict q one most =
      let e = planner.even-listed w n j q one most in
      weighed w n (even_list (network_of n) q) room (record { lag = lag; network = j; plan = e.judged; tunnels = e.tunnels; rows = e.rows; room = h }) ∙ ap good e.overload

  even_accepted : (q : ℕ) → 1 ≤ q → q ≤ most_steps → Accepts w n (even_list (network_of n) q) room ↔ (accepted w (network_of n) (even (network_of n) q) ≡ true)
  even_accepted q one most = (
    λ a. (accepted-both w (network_of n) (even (network_of n) q)).1 (
      even-adds-up (network_of n) q (good-network n n j).1.sums,
      good-same _ _ (sym (even-verdict q one most) ∙ main.done_none n (verdict w n (even_list (network_of n) q) room) (network_of n).tunnels a),
    ),
    λ a. ap (checked n) (even-verdict q one most ∙ ap good ((accepted-both w (network_of n) (even (network_of n) q)).0 a).1),
  )

  -- the model's "none is accepted" is the checker's
  none-modelled : NoneAccepted w n room (λ q. q ≤ most_steps) → (q : ℕ) → 1 ≤ q → q ≤ most_steps → accepted w (network_of n) (even (network_of n) q) ≡ false
  none-modelled refuses q one most =
      ⊎_elim (λ t. absurd (refuses q one most ((even_accepted q one most).1 t))) (λ f. f) (bool_cases (accepted w (network_of n) (even (network_of n) q)))

  none-checked : (q : ℕ) → 1 ≤ q → q ≤ most_steps → accepted w (network_of n) (even (network_of n) q) ≡ false → Accepts w n (even_list (network_of n) q) room → ⊥
  none-checked q one most f a = true≢false (sym ((even_accepted q one most).0 a) ∙ f)

-- ---- refusal 9 is told by its number

nine-cause : (c : Cause) → number c ≡ number no_even_plan → c ≡ no_even_plan
nine-cause causes.NoEvenPlan e = refl
nine-cause causes.Malformed e = absurd (omega (arith, e))
nine-cause causes.OutOfRange e = absurd (omega (arith, e))
nine-cause causes.Missing e = absurd (omega (arith, e))
nine-cause causes.MissedRate e = absurd (omega (arith, e))
nine-cause causes.OtherTunnels e = absurd (omega (arith, e))
nine-cause causes.MissedRow e = absurd (omega (arith, e))
nine-cause causes.OverProtected e = absurd (omega (arith, e))
nine-cause causes.OverTotal e = absurd (omega (arith, e))
nine-cause causes.NoRoom e = absurd (omega (arith, e))
nine-cause causes.NoSuchStep e = absurd (omega (arith, e))
nine-cause causes.NoSuchDesk e = absurd (omega (arith, e))
nine-cause causes.FourWait e = absurd (omega (arith, e))
nine-cause causes.NothingWaits e = absurd (omega (arith, e))
nine-cause causes.OtherShared e = absurd (omega (arith, e))
nine-cause causes.TooMany e = absurd (omega (arith, e))
nine-cause causes.OtherSteps e = absurd (omega (arith, e))
nine-cause causes.Unfit e = absurd (omega (arith, e))
nine-cause causes.LagOutside e = absurd (omega (arith, e))
nine-cause causes.BadScript e = absurd (omega (arith, e))
nine-cause causes.Unshareable e = absurd (omega (arith, e))

told-nine : (o : Outcome (List ℕ)) (room a l : ℕ) → plan (with_room room o) ≡ Refused (number no_even_plan) a l → o ≡ refused no_even_plan a l
told-nine (good p) room a l e = go (leb (length p) room) e
  where
    go : (b : Bool) → plan (cond b (good p) (refused causes.NoRoom (length p) 0)) ≡ Refused (number no_even_plan) a l → good p ≡ refused no_even_plan a l
    go true e = let z : ◌≡◌ {A = ℕ} 0 1 = cc in absurd (omega arith)
    go false e = let k : number causes.NoRoom ≡ number no_even_plan = cc in absurd (omega (arith, k))
told-nine (refused c place second) room a l e =
    let k : number c ≡ number no_even_plan = cc in
    let i : place ≡ a = cc in
    let j : second ≡ l = cc in
    rw (nine-cause c k, i, j)

pub demand2 : Demand2
demand2 = record {
  accepts = λ w n p room. (
    λ a. (checker.done w n p room).0 (main.done_none n (verdict w n p room) (network_of n).tunnels a),
    λ h. ap (checked n) ((checker.done w n p room).1 h),
  );
  even_accepted = λ w n q room lag j h one most. even_accepted w lag n room j h q one most;
  fewest = λ w n p out room r h.
      let e = main.returns-planned w n p out r in
      let f = (planner.claim).fewest w n p e in
      let j = ((planner.claim).safe w n p e).network in
      (f.steps, f.least, f.most, f.list, main.accepted w n p room e h, λ q one less. none-checked w (main.planned-lag w n p e) n room j h q one (omega (arith, f.most)) (f.none_below q one less));
  nine = λ w n out room lag j h refuses.
      let v = (planner.claim).nine w n lag j (none-modelled w lag n room j h refuses) in
      let o = v.0 in (
        step o,
        o.link,
        o.bound,
        ap (λ (p : Outcome (List ℕ)). plan (with_room (length out) p)) v.2,
        ap (checked n) (even-verdict w lag n room j h most_steps (omega arith) (omega arith) ∙ ap good v.1),
      );
  nine_only = λ w n out room a l e h.
      let k = told-nine (planned w n) (length out) a l e in
      let v = (planner.claim).nine_only w n a l k in
      (v.0, λ q one most. none-checked w (main.nine-lag w n a l k) n room v.0 h q one most (v.1 q one most));
}
