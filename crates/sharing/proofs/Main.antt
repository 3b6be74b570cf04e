-- The claim, proved.
use Prim.Native.Nat.{ℕ, ◌+◌, ◌-◌, ◌≤◌, ◌<◌}
use mathlib.Core.Path.{◌≡◌, sym, ap, ◌∙◌}
use mathlib.Core.Logic.{⊎_elim}
use mathlib.Core.List.{List}
use native.Mathlib.Omega.{arith}
use lib.Dec.{leb}
use lib.ListN.{length}
use borrow.Author.Tests.{leb-true, leb-false}
use Rattle.model.proofs.Searches.{bool_cases}
use Rattle.model.proofs.Listed.{listed_at}
use Rattle.lists.specs.Lists.{at}
use Rattle.sharing.specs.Share.{total, up_to, level, above, share_at, shares}
use Rattle.sharing.specs.Claim.{Claim, Fair, IsLevel}
use Rattle.sharing.proofs.Levels.{is-level, up-to-exact}
use Rattle.sharing.proofs.Shares.{share-bounds, share-first, shares-all, shares-met, shares_cut, shares-length, shares-total}
use Rattle.sharing.proofs.Outcomes.{shared-good}
use Rattle.sharing.proofs.Only.{only}

-- the shares are those at some level, with some units left
reached : (rate : ℕ) (demands : List ℕ)
    → (t left : ℕ) × ((i : ℕ) → i < length demands → at (shares rate demands) i ≡ share_at demands t left i)
reached rate demands =
    ⊎_elim
    (λ e. (rate, 0, λ i h. ap (λ (l : List ℕ). at l i) (sym (shares-met rate demands (leb-true (total demands) rate e))) ∙ listed_at (length demands) _ i h))
    (λ e. (level rate demands, rate - up_to demands (level rate demands), λ i h. ap (λ (l : List ℕ). at l i) (shares_cut rate demands (leb-false (total demands) rate e)) ∙ listed_at (length demands) _ i h))
    (bool_cases (leb (total demands) rate))

-- at the level, fewer units are left than there are services above it
few-left : (rate : ℕ) (demands : List ℕ) (t : ℕ) → IsLevel rate demands t → rate - up_to demands t ≤ above demands t (length demands)
few-left rate demands t i =
    let passed : ¬ (up_to demands (t + 1) ≤ rate) = λ h. omega (arith, i.most (t + 1) h) in
    omega (arith, passed, up-to-exact demands t t (omega arith) (omega arith), up-to-exact demands t (t + 1) (omega arith) (omega arith))

fair : (rate : ℕ) (demands : List ℕ) → Fair rate demands (shares rate demands)
fair rate demands =
    let r = reached rate demands in
    let t = r.0 in
    let left = r.1 in
    record {
      count = shares-length rate demands;
      met = λ h. shares-all rate demands h;
      whole =
          λ h.
          let i = is-level rate demands h in
          ap total (shares_cut rate demands h)
          ∙ omega (arith, shares-total demands (level rate demands) (rate - up_to demands (level rate demands)) (few-left rate demands (level rate demands) i), i.fits);
      within = λ i h. omega (arith, r.2 i h, (share-bounds demands t left i).0);
      even =
          λ i j h k l.
          omega (arith, r.2 i h, r.2 j k, (share-bounds demands t left j).1, (share-bounds demands t left i).2 (omega (arith, r.2 i h, l)));
      lowest =
          λ i j l k g.
          let h : i < length demands = omega (arith, l, k) in
          omega (arith, r.2 i h, r.2 j k, share-first demands t left i j (omega (arith, l)) (omega (arith, r.2 i h, g)));
    }

pub claim : Claim
claim = record {
  fair = λ rate demands l e. rw (shared-good rate demands l e) (fair rate demands);
  cut = λ rate demands l e h. (is-level rate demands h, shared-good rate demands l e ∙ shares_cut rate demands h);
  only = only;
}
