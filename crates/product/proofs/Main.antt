-- Demand 3 holds.
use Prim.Native.Nat.{ℕ, suc, ◌-◌, ◌≤◌, ◌<◌}
use mathlib.Core.Path.{◌≡◌, refl, sym, ap, ap₂, ◌∙◌, subst}
use mathlib.Core.Logic.{⊎_elim}
use mathlib.Core.Bool.{Bool, true, false, cond}
use mathlib.Core.List.{List, ◌++◌}
use mathlib.Core.Option.{Option, none, some}
use native.Mathlib.Omega.{arith}
use borrow.Author.Tests.{le-leb, leb-true}
use lib.Dec.{eqb, leb}
use lib.ListN.{length, get_or, take, drop, get_or-append}
use lib.Seq.{take-append_seam}
use Rattle.model.specs.Limits.{most_steps}
use Rattle.model.specs.Outcome.{Outcome, good, refused, number, is_lag}
use Rattle.model.specs.declared.Cause.TheVariants as causes
use Rattle.model.specs.Net.{Net, Plan}
use Rattle.model.specs.Scan.{Bound, Overload, cause, step}
use Rattle.model.specs.Rule.{Choice, overloads, mark, at_largest, marked, step_count}
use Rattle.model.specs.Even.{keeps_scratch, step_bound, lag_bound}
use Rattle.model.proofs.Bounded.{bound-today, bound-most}
use Rattle.model.proofs.Searches.{bool_cases}
use Rattle.lists.specs.Lists.{network_of, plan_of}
use Rattle.lists.specs.Answers.{with_room, plan, lent}
use Rattle.lists.specs.declared.Answer.TheVariants.{Done, Plan as Planned, Refused}
use Rattle.forms.specs.Read.{judge_list}
use Rattle.forms.specs.declared.form.Form.{Form}
use Rattle.forms.proofs.Good.{good-network}
use Rattle.forms.proofs.Round.{read-good}
use Rattle.planner.specs.Planned.{planned}
use Rattle.planner.proofs.Main as planner
use Rattle.checker.specs.Check.{verdict, checked, marks_after}
use Rattle.checker.specs.Inner.{marks_of}
use Rattle.checker.specs.Claim.{Reaches}
use Rattle.checker.proofs.Main.{checker}
use Rattle.product.proofs.Causes.{NotOver, verdict-all, over-number, same-bound}
use Rattle.model.proofs.Choices.{at_same, none_kept}
use Rattle.product.specs.Accepted.{Accepted}
use Rattle.product.specs.Demand3.{Valid, as-list, as-text, by_marks, Returns, Demand3}
use Rattle.model.proofs.Listed.{listed-length, listed_at}

-- ---- what an answer tells of an outcome

room-planned : (o : Outcome (List ℕ)) (room k : ℕ) → plan (with_room room o) ≡ Planned k → (q : List ℕ) × (o ≡ good q) × (with_room room o ≡ good q) × (length q ≡ k)
room-planned (good q) room k e = go (leb (length q) room) refl e
  where
    go : (b : Bool) → leb (length q) room ≡ b → plan (cond b (good q) (refused causes.NoRoom (length q) 0)) ≡ Planned k
        → (p : List ℕ) × (good q ≡ good p) × (cond (leb (length q) room) (good q) (refused causes.NoRoom (length q) 0) ≡ good p) × (length p ≡ k)
    go true t e = (q, refl, simp t, cc)
    go false t e = let z : ◌≡◌ {A = ℕ} 0 1 = cc in absurd (omega arith)
room-planned (refused c place second) room k e = let z : ◌≡◌ {A = ℕ} 0 1 = cc in absurd (omega arith)

room_within : (o : Outcome (List ℕ)) (room k : ℕ) → plan (with_room room o) ≡ Planned k → k ≤ room
room_within (good q) room k e = go (leb (length q) room) refl e
  where
    go : (b : Bool) → leb (length q) room ≡ b → plan (cond b (good q) (refused causes.NoRoom (length q) 0)) ≡ Planned k → k ≤ room
    go true t e = let same : length q ≡ k = cc in omega (arith, leb-true (length q) room t)
    go false t e = let z : ◌≡◌ {A = ℕ} 0 1 = cc in absurd (omega arith)
room_within (refused c place second) room k e = let z : ◌≡◌ {A = ℕ} 0 1 = cc in absurd (omega arith)

same-front : (p q : List ℕ) (out : List ℕ) → length q ≡ length p → q ++ drop (length q) out ≡ p ++ drop (length p) out → q ≡ p
same-front p q out e h = sym (take-append_seam q (drop (length q) out)) ∙ ap₂ (λ (n : ℕ) (l : List ℕ). take n l) e h ∙ take-append_seam p (drop (length p) out)

pub done_none : (n : List ℕ) (o : Outcome (Option Overload)) (k : ℕ) → checked n o ≡ Done k → o ≡ good none
done_none n (good none) k e = refl
done_none n (good (some w)) k e = let z : ◌≡◌ {A = ℕ} 0 1 = cc in absurd (omega arith)
done_none n (refused c place second) k e = let z : ◌≡◌ {A = ℕ} 0 1 = cc in absurd (omega arith)

-- only an overload is a refusal by 7 or 8
record Over (o : Outcome (Option Overload)) (b : Bound) (a l : ℕ) : Type 0 where
  overload : Overload
  found : o ≡ good (some overload)
  bound : overload.bound ≡ b
  from : suc overload.from ≡ a
  link : overload.link ≡ l

over : (n : List ℕ) (o : Outcome (Option Overload)) (b : Bound) (a l : ℕ) → NotOver o → checked n o ≡ Refused (number (cause b)) a l → Over o b a l
over n (good none) b a l h e = let z : ◌≡◌ {A = ℕ} 0 1 = cc in absurd (omega arith)
over n (good (some w)) b a l h e =
    let k : number (cause w.bound) ≡ number (cause b) = cc in
    record { overload = w; found = refl; bound = same-bound w.bound b k; from = cc; link = cc }
over n (refused c place second) b a l h e = let k : number c ≡ number (cause b) = cc in absurd (over-number b (number c) k h)

-- ---- the choice by the bytes of the marks is the marked choice, at the tunnels that there are

bit : (b : Bool) → eqb (cond b 1 0) 1 ≡ b
bit true = refl
bit false = refl

mark-at : (m : ℕ → Bool) (n t : ℕ) (rest : List ℕ) → t < n → eqb (get_or (marks_of m n ++ rest) t 0) 1 ≡ m t
mark-at m n t rest h =
    ap (λ (k : ℕ). eqb k 1) (get_or-append (marks_of m n) rest 0 t (rw (listed-length {A = ℕ} n (λ i. cond (m i) 1 0)) h) ∙ listed_at n (λ i. cond (m i) 1 0) t h) ∙ bit (m t)

shows_same : (w : ℕ) (N : Net) (P : Plan) (o : Overload) (marks : List ℕ) → ((t : ℕ) → t < N.tunnels → eqb (get_or marks t 0) 1 ≡ mark w N P o t)
    → overloads w N P o.from o.link (at_largest w N P o.from o.link (λ t. eqb (get_or marks t 0) 1)) o.bound
    ≡ overloads w N P o.from o.link (marked w N P o) o.bound
unfolding marked
shows_same w N P o marks h = ap (λ (c : Choice w N P o.from). overloads w N P o.from o.link c o.bound) (at_same w N P o.from o.link _ _ h)

-- what is shown of an overload, in the terms of its answer
shown-at : (w : ℕ) (n p marks : List ℕ) (b : Bound) (a l : ℕ) (o : Over (verdict w n p (length marks)) b a l)
    → (o.overload.from < step_count w (network_of n) (plan_of p)) × (o.overload.link < (network_of n).links)
    × (overloads w (network_of n) (plan_of p) o.overload.from o.overload.link (marked w (network_of n) (plan_of p) o.overload) o.overload.bound ≡ true)
    → (1 ≤ a) × (a - 1 < step_count w (network_of n) (plan_of p)) × (l < (network_of n).links)
    × (overloads w (network_of n) (plan_of p) (a - 1) l (by_marks w n p (a - 1) l (marks_after w n p (verdict w n p (length marks)) marks)) b ≡ true)
shown-at w n p marks b a l o s =
    let v = o.overload in
    let row : a - 1 ≡ v.from = omega (arith, o.from) in
    let ms : List ℕ = marks_after w n p (verdict w n p (length marks)) marks in
    let em : ms ≡ marks_of (mark w (network_of n) (plan_of p) v) (network_of n).tunnels ++ drop (network_of n).tunnels marks = ap (λ (q : Outcome (Option Overload)). marks_after w n p q marks) o.found in
    let same = shows_same w (network_of n) (plan_of p) v ms (λ t h. ap (λ (xs : List ℕ). eqb (get_or xs t 0) 1) em ∙ mark-at (mark w (network_of n) (plan_of p) v) (network_of n).tunnels t _ h) in (
      omega (arith, o.from),
      omega (arith, s.0, row),
      omega (arith, s.1, o.link),
      rw (row, ← o.link, ← o.bound) (same ∙ s.2),
    )

-- ---- lists and texts

valid : (form : Form) (l : List ℕ) → Valid form l → judge_list form l ≡ good l
valid form l (as-list e) = e
valid form l (as-text text e) = read-good form text l e

-- a plan that the planner comes to is answered and written, given the room
pub returned : (w : ℕ) (n p out : List ℕ) → planned w n ≡ good p → length p ≤ length out → Returns w n p out
returned w n p out e h = (simp (e, le-leb (length p) (length out) h), simp (e, le-leb (length p) (length out) h))

bounded_lag : (w : ℕ) (n : List ℕ) → is_lag w ≡ true → Valid Form.Network n → keeps_scratch (network_of n) ≡ true → lag_bound w (network_of n).scratch (network_of n).overrun ≤ most_steps
    → (p : List ℕ) × ((plan_of p).steps ≤ lag_bound w (network_of n).scratch (network_of n).overrun) × ((out : List ℕ) → length p ≤ length out → Returns w n p out)
bounded_lag w n lag v k most = let b = (planner.claim).bounded w n lag (valid Form.Network n v) k most in (b.0, b.3, λ out h. returned w n b.0 out b.1 h)

-- the case of a lag of 1
bounded : (n : List ℕ) → Valid Form.Network n → keeps_scratch (network_of n) ≡ true
    → (p : List ℕ) × ((plan_of p).steps ≤ step_bound (network_of n).scratch (network_of n).overrun) × ((out : List ℕ) → length p ≤ length out → Returns 1 n p out)
unfolding network_of
bounded n v k =
    let g = (good-network n n (valid Form.Network n v)).1.ranges in
    let e = bound-today (network_of n).scratch (network_of n).overrun (omega (arith, g.scratch.0)) (omega (arith, g.scratch.1)) in
    let b = bounded_lag 1 n refl v k (omega (arith, e, bound-most (network_of n).scratch (network_of n).overrun g.scratch.0 g.overrun)) in
    (b.0, omega (arith, e, b.1), b.2)

-- and what the planner returns is what it comes to
pub returns-planned : (w : ℕ) (n p out : List ℕ) → Returns w n p out → planned w n ≡ good p
returns-planned w n p out r =
    let s = room-planned (planned w n) (length out) (length p) r.0 in
    let q : s.0 ≡ p = same-front p s.0 out s.3 (sym (ap (λ (o : Outcome (List ℕ)). lent o out) s.2) ∙ r.1) in
    s.1 ∙ ap good q

-- which there was room for
pub returns-room : (w : ℕ) (n p out : List ℕ) → Returns w n p out → length p ≤ length out
returns-room w n p out r = room_within (planned w n) (length out) (length p) r.0

-- an outcome of the planner other than 19 is that of a lag of 1 to 4
other-lag : (w : ℕ) (n : List ℕ) (o : Outcome (List ℕ)) → planned w n ≡ o → (refused causes.LagOutside w 0 ≡ o → ⊥) → is_lag w ≡ true
other-lag w n o e k = ⊎_elim (λ t. t) (λ f. absurd (k (sym ((planner.claim).outside w n f) ∙ e))) (bool_cases (is_lag w))

pub planned-lag : (w : ℕ) (n p : List ℕ) → planned w n ≡ good p → is_lag w ≡ true
planned-lag w n p e = other-lag w n (good p) e (λ k. let z : ◌≡◌ {A = ℕ} 0 1 = cc in omega arith)

pub nine-lag : (w : ℕ) (n : List ℕ) (a l : ℕ) → planned w n ≡ refused causes.NoEvenPlan a l → is_lag w ≡ true
nine-lag w n a l e = other-lag w n (refused causes.NoEvenPlan a l) e (λ k. let z : ◌≡◌ {A = ℕ} 0 1 = cc in omega arith)

pub demand3 : Demand3
unfolding step_bound
demand3 = record {
  planner = λ w n out p r. ((planner.claim).safe w n p (returns-planned w n p out r)).choices;
  checker = λ w n p marks k e. checker.safe w n p (length marks) (done_none n (verdict w n p (length marks)) k e);
  marked = λ w n p marks b a l e.
      let o = over n (verdict w n p (length marks)) b a l (verdict-all w n p (length marks)) e in
      let s = checker.shown w n p (length marks) o.overload o.found in
      shown-at w n p marks b a l o s;
  found = λ w n p marks lag vn vp et er hr i l hi hl c b e.
      let f = checker.found w n p (length marks) (record { lag = lag; network = valid Form.Network n vn; plan = valid Form.Plan p vp; tunnels = et; rows = er; room = hr }) i l hi hl c b e in
      (f.0.bound, step f.0, f.0.link, ap (checked n) f.1);
  bounded_lag = bounded_lag;
  bounded = λ n v k z. let r = bounded n v k in (r.0, subst (λ (m : ℕ). (plan_of r.0).steps ≤ step_bound (network_of n).scratch m) z r.1, r.2);
  bounded_overrun = bounded;
}

-- ---- what the planner returns, the checker accepts

pub accepted : Accepted
accepted w n p room e h =
    let s = (planner.claim).safe w n p e in
    let r : Reaches w n p room = record { lag = planned-lag w n p e; network = s.network; plan = s.judged; tunnels = s.tunnels; rows = s.rows; room = h } in
    ap (checked n) ((checker.done w n p room).1 (r, none_kept w (network_of n) (plan_of p) s.overload))
