-- The claim of the planner's outcome holds.
use Prim.Native.Nat.{ℕ, suc, ◌+◌, ◌-◌, ◌*◌, ◌≤◌}
use mathlib.Core.Path.{◌≡◌, refl, sym, ap, ◌∙◌}
use mathlib.Core.Logic.{⊎_elim}
use mathlib.Core.Bool.{true, false, true≢false}
use mathlib.Core.List.{List}
use mathlib.Core.Option.{Option, none, some, Option-elim}
use native.Mathlib.Omega.{arith}
use native.Mathlib.Nat.{mul-le-mul_left}
use lib.ListN.{length}
use Rattle.model.specs.Limits.{most_steps, most_amount}
use Rattle.model.specs.Outcome.{Outcome, good, refused}
use Rattle.model.specs.declared.Cause.TheVariants.{NoEvenPlan as no_even_plan}
use Rattle.model.specs.Net.{Net}
use Rattle.model.specs.Scan.{Overload, step}
use Rattle.model.specs.Rule.{missed_rate, missed_row, first_overload, accepted}
use Rattle.model.specs.Even.{even_row, even, fewest, keeps_scratch, lag_bound}
use Rattle.model.proofs.Outcomes.{good-refused}
use Rattle.model.proofs.Searches.{option_cases, only-some, only_none, first_some, first-none, none_first, only-false}
use Rattle.model.proofs.Choices as choices
use Rattle.model.proofs.Rows.{Same, row-missed-same, overload-same, accepted-both, even-at, even-adds-up}
use Rattle.model.proofs.Bounded as model
use Rattle.lists.specs.Answers.{with_room}
use Rattle.lists.specs.Lists.{network_of, plan_sizes, plan_of}
use Rattle.lists.specs.Good.{GoodNetwork}
use Rattle.model.specs.Outcome.{and_then, is_lag}
use Rattle.lists.proofs.Rooms.{good-room}
use Rattle.forms.proofs.Good.{good-network, good-valid, plan-good}
use Rattle.planner.specs.Planned.{even_list, stuck, even_plan, planned}
use Rattle.planner.specs.Claim.{FewestSteps, NoneBelow, Safe, Claim}
use Rattle.planner.proofs.Planned.{by_fewest}
use Rattle.planner.proofs.EvenLists.{list_length, list-head, list_at, rows-most, list-beyond}
use Rattle.planner.proofs.Judged.{lag-least, lag-else, planned-outside, planned-good, planned-nine}
use Rattle.model.specs.Search.{only_if}
use Rattle.forms.specs.Named.{judge_network, judge_plan}

-- ---- the cases of the outcome

stuck-no-plan : (o : Option Overload) (p : List ℕ) → stuck o ≡ good p → ⊥
unfolding stuck Option-elim
stuck-no-plan none p e = let z : ◌≡◌ {A = ℕ} 0 1 = cc in omega arith
stuck-no-plan (some o) p e = let z : ◌≡◌ {A = ℕ} 0 1 = cc in omega arith

by-fewest : (w : ℕ) (N : Net) (o : Option ℕ) (p : List ℕ) → by_fewest w N o ≡ good p → (q : ℕ) × (o ≡ some q) × (p ≡ even_list N q)
unfolding Option-elim
by-fewest w N none p e = absurd (stuck-no-plan (first_overload w N (even N most_steps)) p e)
by-fewest w N (some q) p e = (q, refl, cc)

passed-good : (o : Outcome (List ℕ)) (next : List ℕ → Outcome (List ℕ)) (p : List ℕ) → and_then o next ≡ good p → (g : List ℕ) × (o ≡ good g) × (next g ≡ good p)
passed-good (good g) next p e = (g, refl, e)
passed-good (refused c i j) next p e = let z : ◌≡◌ {A = ℕ} 0 1 = cc in absurd (omega arith)

-- a plan: the network is judged good, and the plan's list is that of the fewest steps
record Made (w : ℕ) (l p : List ℕ) : Type 0 where
  judged : judge_network l ≡ good l
  network : GoodNetwork l
  steps : ℕ
  fewest : fewest w (network_of l) ≡ some steps
  list : p ≡ even_list (network_of l) steps

made : (w : ℕ) (l p : List ℕ) → planned w l ≡ good p → Made w l p
unfolding planned even_plan
made w l p e =
    let h = lag-else w (and_then (judge_network l) (λ g. even_plan w (network_of g))) (good p) (good-refused p _ _ _) e in
    let s = passed-good (judge_network l) (λ g. even_plan w (network_of g)) p h.1 in
    let j = good-network l s.0 s.1 in
    let f = by-fewest w (network_of l) (fewest w (network_of l)) p (sym (ap (λ g. even_plan w (network_of g)) j.0) ∙ s.2) in
    record { judged = s.1 ∙ ap good j.0; network = j.1; steps = f.0; fewest = f.1; list = f.2 }

-- ---- the fewest steps

below-fewest : (w : ℕ) (N : Net) (q : ℕ) → fewest w N ≡ some q → NoneBelow w N q
unfolding fewest
below-fewest w N q e r one less =
    let s = first_some (λ i. only_if (accepted w N (even N (suc i))) (suc i)) most_steps q e in
    let t = only-some _ (suc s.0) q s.2 in
    let k : suc (r - 1) ≡ r = omega arith in
    ap (λ (i : ℕ). accepted w N (even N i)) (sym k) ∙ only_none _ (suc (r - 1)) (first-none (λ i. only_if (accepted w N (even N (suc i))) (suc i)) s.0 s.3 (r - 1) (omega (arith, t.1)))

accepted-none : (w : ℕ) (N : Net) → ((q : ℕ) → 1 ≤ q → q ≤ most_steps → accepted w N (even N q) ≡ false) → fewest w N ≡ none
unfolding fewest
accepted-none w N h = none_first (λ i. only_if (accepted w N (even N (suc i))) (suc i)) most_steps (λ i k. only-false _ (suc i) (h (suc i) (omega arith) k))

pub fewest-steps : (w : ℕ) (l p : List ℕ) → planned w l ≡ good p → FewestSteps w (network_of l) p
fewest-steps w l p e =
    let m = made w l p e in
    let f = model.fewest-some w (network_of l) m.steps m.fewest in
    record { steps = m.steps; least = f.0; most = f.1; list = m.list; accepted = f.2; none_below = below-fewest w (network_of l) m.steps m.fewest }

-- ---- the list of an even plan is a plan

-- each number is at most parts times the largest amount
even-most : (q a o n : ℕ) → a ≤ q → o ≤ most_amount → n ≤ most_amount → q * o + a * n - a * o ≤ most_amount * q
even-most q a o n h ho hn =
    let e : (q - a) + a ≡ q = omega arith in
    omega (arith, even-at q a o n h, mul-le-mul_left (q - a) ho, mul-le-mul_left a hn)

module _ (l : List ℕ) (g : GoodNetwork l) (q : ℕ) (one : 1 ≤ q) (most : q ≤ most_steps) where
  even-judged : judge_plan (even_list (network_of l) q) ≡ good (even_list (network_of l) q)
  unfolding plan_of network_of even_row even_list
  even-judged = plan-good (even_list (network_of l) q) (record {
    edition = refl;
    parts = (one, most);
    steps = (one, most);
    tunnels = g.ranges.sized.counts.tunnels;
    size = list_length (network_of l) q;
    amounts = λ i four _. rw (list-beyond (network_of l) q i (omega arith))
        (rows-most (most_amount * q) (network_of l) q (q - 1) (λ a t ha ht. even-most q a _ _ (omega arith) (g.ranges.tunnels.old t ht) (g.ranges.tunnels.new t ht)) (i - 4));
  })

  even-same : Same (network_of l) (plan_of (even_list (network_of l) q)) (even (network_of l) q)
  unfolding plan_of even even_list
  even-same = record { parts = refl; steps = refl; at = λ a t ha hq ht. list_at (network_of l) q a t ha hq ht }

-- it reaches the checker's steps, and overloads where the even plan does
pub record EvenListed (w : ℕ) (l : List ℕ) (q : ℕ) : Type 0 where
  pub judged : judge_plan (even_list (network_of l) q) ≡ good (even_list (network_of l) q)
  pub tunnels : (plan_sizes (even_list (network_of l) q)).tunnels ≡ (network_of l).tunnels
  pub rows : missed_row (network_of l) (plan_of (even_list (network_of l) q)) ≡ none
  pub overload : first_overload w (network_of l) (plan_of (even_list (network_of l) q)) ≡ first_overload w (network_of l) (even (network_of l) q)

pub even-listed : (w : ℕ) (l : List ℕ) → judge_network l ≡ good l → (q : ℕ) → 1 ≤ q → q ≤ most_steps → EvenListed w l q
unfolding network_of
even-listed w l j q one most =
    let g = (good-network l l j).1 in
    let s = even-same l g q one most in
    record {
      judged = even-judged l g q one most;
      tunnels = (list-head (network_of l) q).3;
      rows = row-missed-same (network_of l) _ _ s ∙ even-adds-up (network_of l) q g.sums;
      overload = overload-same (network_of l) _ _ s w;
    }

pub safe : (w : ℕ) (l p : List ℕ) → planned w l ≡ good p → Safe w l p
safe w l p e =
    let m = made w l p e in
    let N = network_of l in
    let f = model.fewest-some w N m.steps m.fewest in
    let s = even-listed w l m.judged m.steps f.0 f.1 in
    let none_over = s.overload ∙ ((accepted-both w N (even N m.steps)).0 f.2).1 in
    rw m.list (record {
      network = m.judged;
      judged = s.judged;
      tunnels = s.tunnels;
      rows = s.rows;
      overload = none_over;
      choices = choices.safe w N _ none_over;
    })

-- ---- refusal 9

-- where no even plan is accepted, that of 50 steps overloads somewhere, since its rows add up
pub stuck-somewhere : (w : ℕ) (N : Net) → missed_rate N ≡ none → fewest w N ≡ none → (o : Overload) × (first_overload w N (even N most_steps) ≡ some o)
stuck-somewhere w N r e =
    ⊎_elim
    (λ z. absurd (true≢false (sym ((accepted-both w N (even N most_steps)).1 (even-adds-up N most_steps r, z)) ∙ model.fewest-none w N e most_steps (omega arith) (omega arith))))
    (λ s. s)
    (option_cases (first_overload w N (even N most_steps)))

pub nine : (w : ℕ) (l : List ℕ) → is_lag w ≡ true → judge_network l ≡ good l → ((q : ℕ) → 1 ≤ q → q ≤ most_steps → accepted w (network_of l) (even (network_of l) q) ≡ false)
    → (o : Overload) × (first_overload w (network_of l) (even (network_of l) most_steps) ≡ some o) × (planned w l ≡ refused no_even_plan (step o) o.link)
unfolding even_plan Option-elim stuck
nine w l lag j h =
    let N = network_of l in
    let e = accepted-none w N h in
    let s = stuck-somewhere w N (good-network l l j).1.sums e in
    (s.0, s.1, planned-good w l lag j ∙ ap (by_fewest w N) e ∙ ap stuck s.1)

nine-by-fewest : (w : ℕ) (N : Net) (o : Option ℕ) (p s : ℕ) → by_fewest w N o ≡ refused no_even_plan p s → o ≡ none
unfolding Option-elim
nine-by-fewest w N none p s e = refl
nine-by-fewest w N (some q) p s e = let z : ◌≡◌ {A = ℕ} 0 1 = cc in absurd (omega arith)

pub nine_only : (w : ℕ) (l : List ℕ) (place second : ℕ) → planned w l ≡ refused no_even_plan place second
    → (judge_network l ≡ good l) × ((q : ℕ) → 1 ≤ q → q ≤ most_steps → accepted w (network_of l) (even (network_of l) q) ≡ false)
unfolding even_plan
nine_only w l place second e =
    let n = planned-nine w l place second e in
    (n.0, model.fewest-none w (network_of l) (nine-by-fewest w (network_of l) (fewest w (network_of l)) place second n.1))

-- ---- a network that keeps its scratch

pub bounded : (w : ℕ) (l : List ℕ) → is_lag w ≡ true → judge_network l ≡ good l → keeps_scratch (network_of l) ≡ true
    → lag_bound w (network_of l).scratch (network_of l).overrun ≤ most_steps
    → (p : List ℕ) × (planned w l ≡ good p) × ((room : ℕ) → length p ≤ room → with_room room (planned w l) ≡ good p)
    × ((plan_of p).steps ≤ lag_bound w (network_of l).scratch (network_of l).overrun)
unfolding even_plan Option-elim plan_of
bounded w l lag j k most =
    let N = network_of l in
    let b = model.bounded w N (lag-least w lag) (good-valid l (good-network l l j).1) k most in
    let p : List ℕ = even_list N b.0 in
    let e : planned w l ≡ good p = planned-good w l lag j ∙ ap (by_fewest w N) b.1 in (
      p,
      e,
      λ room h. ap (with_room room) e ∙ good-room room p h,
      rw (list-head N b.0).2 b.3,
    )

pub claim : Claim
claim = record { outside = planned-outside; safe = safe; fewest = fewest-steps; nine = nine; nine_only = nine_only; bounded = bounded }
