-- "all is done after stage k": every tunnel to add is in by then, and every one to remove is out.
use Prim.Native.Nat.{ℕ, zero, suc, ◌+◌, ◌*◌, ◌^◌, ◌≤◌, ◌<◌}
use mathlib.Core.Path.{◌≡◌, refl, sym, ◌∙◌}
use mathlib.Core.Logic.{◌≢◌}
use mathlib.Core.Bool.{true, true≢false}
use native.Mathlib.Nat.{mul-le-mul_left}
use native.Mathlib.Omega.{arith}
use borrow.Author.Tests.{eq-eqb}
use lib.Count.{count_trailing_zeros}
use Rattle.model.specs.Limits.{least_share, most_share}
use Rattle.model.specs.Sets.{in_set}
use Rattle.model.proofs.Sets.{at-lowest, set-within}
use Rattle.rules.specs.Rules.{Rules, keep, add, remove, is_kind, count, last_stage, spare}
use Rattle.rules.specs.Stage.{adds, removes, Stages, moved, waits, goes, pass, stage, stages}
use Rattle.rules.proofs.Counts.{within_all, count-some, count-kind}
use Rattle.rules.proofs.Passes.{is-waiting, pass-stayed, pass-other}
use Rattle.rules.proofs.Bounds.{last-pos, remaining-most}

-- what a good list says of its figures
pub record Valid (R : Rules) : Type 0 where
  pub slack : (least_share ≤ R.slack) × (R.slack ≤ most_share)
  pub via : (t : ℕ) → t < R.tunnels → (R.via t ≢ 0) × (R.via t < 2 ^ R.switches)
  pub kind : (t : ℕ) → t < R.tunnels → (keep ≤ R.kind t) × (R.kind t ≤ remove)

-- what is left of the room beside the kept tunnels suffices for those to add, and for those to remove
pub record Fits (R : Rules) : Type 0 where
  pub new : (s : ℕ) → s < R.switches → 1000 * count R (is_kind R add) s ≤ spare R s
  pub old : (s : ℕ) → s < R.switches → 1000 * count R (is_kind R remove) s ≤ spare R s

-- a tunnel crosses a switch
pub some-switch : (R : Rules) → Valid R → (t : ℕ) → t < R.tunnels → (s : ℕ) × (s < R.switches) × (in_set (R.via t) s ≡ true)
some-switch R v t h =
    let q = v.via t h in
    let one = at-lowest R.switches (R.via t) q.0 q.1 in
    (count_trailing_zeros R.switches (R.via t), set-within (R.via t) R.switches _ q.1 one, eq-eqb _ 1 one)

module _ (R : Rules) (v : Valid R) (fits : Fits R) where
  abbrev k : ℕ
  k = last_stage R

  -- in stage k each tunnel that waits to be added goes in
  goes_last : (f : Stages) (t : ℕ) → t < R.tunnels → waits R adds f t ≡ true → goes R adds k f t ≡ true
  unfolding goes
  goes_last f t h w =
      within_all R k (λ s. count R (moved R adds f) s + 1) t
      (λ s l e.
      let few : count R (moved R adds f) s + 1 ≤ count R (is_kind R add) s = omega (arith, count-kind R s adds f, count-some R s (waits R adds f) t h w e) in
      omega (arith, mul-le-mul_left (1000 * k) few, mul-le-mul_left k (fits.new s l)))

  in-last : (f : Stages) (u : ℕ) → u < R.tunnels → waits R adds (pass R adds k f R.tunnels) u ≢ true
  in-last f u h w =
      let c = pass-stayed R adds k f R.tunnels (last-pos R v.slack) u h w in
      true≢false (sym (goes_last (pass R adds k f u) u h c.0) ∙ c.1)

  pub all_in : (t : ℕ) → t < R.tunnels → R.kind t ≡ add → stages R k t ≢ 0
  unfolding stages stage
  all_in t h e z = go k refl z
    where
      go : (j : ℕ) → j ≡ k → stages R j t ≡ 0 → ⊥
      go zero q z = omega (arith, q, last-pos R v.slack)
      go (suc j) q z =
          let g : Stages = pass R adds (suc j) (stages R j) R.tunnels in
          let same : pass R removes (suc j) g R.tunnels t ≡ g t = pass-other R removes (suc j) g R.tunnels t (λ y. omega (arith, y, e)) in
          in-last (stages R j) t h (rw (← q) (is-waiting R adds g t e (sym same ∙ z)))

  pub all-out : (t : ℕ) → t < R.tunnels → R.kind t ≡ remove → stages R k t ≢ 0
  all-out t h e z =
      let c = some-switch R v t h in
      let s : ℕ = c.0 in
      let one = count-some R s (waits R removes (stages R k)) t h (is-waiting R removes (stages R k) t e z) c.2 in
      omega (arith, remaining-most R s c.1 k 0 (omega arith) (fits.old s c.1), mul-le-mul_left (1000 * k) one, last-pos R v.slack)
