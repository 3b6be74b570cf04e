-- Laws of what sharing comes to: where a refusal points, what is given, and what is left in the output.
use Prim.Native.Nat.{ℕ, ◌+◌, ◌≤◌, ◌<◌}
use mathlib.Core.Path.{◌≡◌, refl, sym, ap, ◌∙◌}
use mathlib.Core.Bool.{true}
use mathlib.Core.Option.{Option, none, some, or_else}
use mathlib.Core.List.{List, ◌++◌}
use native.Mathlib.Numerals.{add-one}
use native.Mathlib.Omega.{arith}
use lib.ListN.{length, drop}
use borrow.Author.Tests.{le-leb, lt-leb, lt-ltb, le-ltb, ltb-false}
use Rattle.std.specs.Prelude.{Ok, Err}
use Rattle.model.specs.Limits.{most_amount}
use Rattle.model.specs.Sum.{sum_over}
use Rattle.model.specs.Search.{only_if, first}
use Rattle.model.specs.Outcome.{Outcome, good, Place, unless}
use Rattle.model.specs.declared.Cause.TheVariants.{Unshareable as unshareable, NoRoom as no_room}
use Rattle.model.proofs.Searches.{first-at, first-none, only-true, only_none}
use Rattle.lists.specs.Lists.{at}
use Rattle.lists.specs.Answers.{with_room, lent}
use Rattle.lists.specs.Refusals.{refusal, judged, counted}
use Rattle.lists.specs.declared.refusal.Refusal.{Refusal}
use Rattle.lists.proofs.Rooms.{good-room}
use Rattle.sharing.specs.Share.{most_services, total, outside, bad_demand, shares, shared}
use Rattle.sharing.specs.Inner.{InRange}
use Rattle.sharing.proofs.Shares.{shares-length}

-- ---- the demands, looked through

abbrev pub looked : List ℕ → Outcome (List ℕ)
looked demands = unless unshareable (first (length demands) (bad_demand demands)) (good demands)

module _ (demands : List ℕ) (i : ℕ) (before : first i (bad_demand demands) ≡ none) where
  pub first-bad : i < length demands → most_amount < at demands i → judged (looked demands) ≡ Err (refusal unshareable (i + 1) 0)
  unfolding bad_demand
  first-bad h over =
      let e = first-at (bad_demand demands) i (length demands) _ before (only-true _ _ (lt-ltb most_amount (at demands i) over)) h in
      ap (λ (o : Option Place). judged (unless unshareable o (good demands))) e ∙ ap (λ (n : ℕ). Err (refusal unshareable n 0)) (sym (add-one i))

  pub none-bad : i ≡ length demands → judged (looked demands) ≡ Ok demands
  none-bad e = ap (λ (o : Option Place). judged (unless unshareable o (good demands))) (rw e at before)

  pub all-low : 1 ≤ length demands → length demands ≤ most_services → i ≡ length demands → InRange demands
  unfolding bad_demand
  all-low s f e = record {
    some = s;
    few = f;
    low = λ j k. ltb-false most_amount (at demands j) (only_none _ _ (first-none (bad_demand demands) i before j (omega (arith, e, k))));
  }

pub all-added : (demands : List ℕ) (i sum : ℕ) → i ≡ length demands → sum ≡ sum_over i (λ j. true) (at demands) → sum ≡ total demands
unfolding total
all-added demands i sum e adds = adds ∙ ap (λ (m : ℕ). sum_over m (λ j. true) (at demands)) e

-- ---- what is outside its range

module _ (rate : ℕ) (demands : List ℕ) where
  pub outside-none : length demands ≡ 0 → outside rate demands ≡ some (record { place = 0; second = 0 })
  unfolding outside only_if or_else
  outside-none h = rw (lt-leb 1 (length demands) (omega (arith, h)))

  pub outside-many : most_services < length demands → outside rate demands ≡ some (record { place = 0; second = 0 })
  unfolding outside only_if or_else
  outside-many h = rw (le-leb 1 (length demands) (omega (arith, h)), lt-leb (length demands) most_services h)

  module _ (s : 1 ≤ length demands) (f : length demands ≤ most_services) where
    pub outside-rate : most_amount < rate → outside rate demands ≡ some (record { place = 0; second = 1 })
    unfolding outside only_if or_else
    outside-rate h = rw (le-leb 1 (length demands) s, le-leb (length demands) most_services f, lt-ltb most_amount rate h)

    outside-first : rate ≤ most_amount → outside rate demands ≡ first (length demands) (bad_demand demands)
    unfolding outside only_if or_else
    outside-first h = rw (le-leb 1 (length demands) s, le-leb (length demands) most_services f, le-ltb most_amount rate h)

  -- ---- what it comes to, and what is left in the output

  module _ (out : List ℕ) where
    abbrev outcome : Outcome (List ℕ)
    outcome = with_room (length out) (shared rate demands)

    pub share-refused : (p : Place) → outside rate demands ≡ some p → (Err (refusal unshareable p.place p.second) ≡ counted outcome) × (out ≡ lent outcome out)
    unfolding shared
    share-refused p e = rw e (refl, refl)

    -- where the rate is in range, a refusal of the demands stands
    pub share-bad : (e : Refusal) → 1 ≤ length demands → length demands ≤ most_services → rate ≤ most_amount → judged (looked demands) ≡ Err e
        → (Err e ≡ counted outcome) × (out ≡ lent outcome out)
    unfolding shared
    share-bad e s f h j = go (first (length demands) (bad_demand demands)) (outside-first s f h) j
      where
        go : (q : Option Place) → outside rate demands ≡ q → judged (unless unshareable q (good demands)) ≡ Err e → (Err e ≡ counted outcome) × (out ≡ lent outcome out)
        go none s k = let z : ◌≡◌ {A = ℕ} 0 1 = cc in absurd (omega arith)
        go (some p) s k = let same : refusal unshareable p.place p.second ≡ e = cc in (ap Err (sym same) ∙ (share-refused p s).0, (share-refused p s).1)

    -- and else nothing is outside its range
    pub share-good : (l : List ℕ) → 1 ≤ length demands → length demands ≤ most_services → rate ≤ most_amount → judged (looked demands) ≡ Ok l → (outside rate demands ≡ none) × (l ≡ demands)
    share-good l s f h j = go (first (length demands) (bad_demand demands)) (outside-first s f h) j
      where
        go : (q : Option Place) → outside rate demands ≡ q → judged (unless unshareable q (good demands)) ≡ Ok l → (outside rate demands ≡ none) × (l ≡ demands)
        go none s k = (s, cc)
        go (some p) s k = let z : ◌≡◌ {A = ℕ} 0 1 = cc in absurd (omega arith)

    pub share-none : outside rate demands ≡ none → length out < length demands → (Err (refusal no_room (length demands) 0) ≡ counted outcome) × (out ≡ lent outcome out)
    unfolding shared
    share-none e h = rw (e, shares-length rate demands, lt-leb (length demands) (length out) h) (refl, refl)

    pub share-all : outside rate demands ≡ none → length demands ≤ length out
        → (Ok (length demands) ≡ counted outcome) × (shares rate demands ++ drop (length demands) out ≡ lent outcome out)
    unfolding shared
    share-all e h =
        let n = shares-length rate demands in
        let g : outcome ≡ good (shares rate demands)
        = ap (λ (o : Option Place). with_room (length out) (unless unshareable o (good (shares rate demands)))) e ∙ good-room (length out) (shares rate demands) (rw n h) in
        (ap Ok (sym n) ∙ ap counted (sym g), ap (λ (k : ℕ). shares rate demands ++ drop k out) (sym n) ∙ ap (λ (o : Outcome (List ℕ)). lent o out) (sym g))

-- a list that is given is that of the shares
pub shared-good : (rate : ℕ) (demands l : List ℕ) → shared rate demands ≡ good l → l ≡ shares rate demands
unfolding shared
shared-good rate demands l e = go (outside rate demands) e
  where
    go : (o : Option Place) → unless unshareable o (good (shares rate demands)) ≡ good l → l ≡ shares rate demands
    go none e = cc
    go (some p) e = let z : ◌≡◌ {A = ℕ} 0 1 = cc in absurd (omega arith)
