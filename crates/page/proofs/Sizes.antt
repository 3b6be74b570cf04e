-- The numbers of a page fit its columns, because the plan is accepted.
use Prim.Native.Nat.{ℕ, suc, ◌+◌, ◌*◌, ◌≤◌, ◌<◌}
use mathlib.Core.Path.{◌≡◌, refl}
use mathlib.Core.Logic.{⊎_elim}
use mathlib.Core.Bool.{false}
use mathlib.Core.List.{List}
use native.Mathlib.Nat.{mul-le-mul}
use native.Mathlib.Omega.{arith}
use lib.Count.{ones-le}
use lib.ListN.{length}
use borrow.Author.Tests.{ltb-false}
use Rattle.model.specs.Limits.{most_steps, most_amount, most_share}
use Rattle.model.specs.Net.{Net, Plan}
use Rattle.model.specs.Rule.{load, exceeds, worst, worst_over, step_count}
use Rattle.model.specs.Scan.{Bound, protected, total}
use Rattle.model.proofs.Choices.{none_kept}
use Rattle.lists.specs.Lists.{at, network_sizes, network_of, plan_sizes, plan_of}
use Rattle.lists.specs.Good.{GoodNetwork}
use Rattle.lists.proofs.Held.{cap-most}
use Rattle.fields.specs.Columns.{line, line_size, numbers}
use Rattle.fields.specs.Inner.{Fits}
use Rattle.fields.proofs.Fields.{numbers-length}
use Rattle.step_loads.specs.Worst.{worst_load}
use Rattle.page.specs.Page.{hops, link_fields, tunnel_fields}
use Rattle.page.specs.Inner.{Accepted}

-- what the rule leaves of a load
module _ (N : Net) (P : Plan) (i l : ℕ) where
  protected-within : worst_over 1 N P i l protected ≡ false → worst_load N P i l protected ≤ P.parts * N.cap l
  unfolding worst_over exceeds worst_load
  protected-within e = ltb-false (P.parts * N.cap l) (load N protected (worst 1 N P i l)) e

  total-within : worst_over 1 N P i l total ≡ false → 1000 * worst_load N P i l total ≤ (1000 + N.overrun) * (P.parts * N.cap l)
  unfolding worst_over exceeds worst_load
  total-within e = ltb-false ((1000 + N.overrun) * (P.parts * N.cap l)) (1000 * load N total (worst 1 N P i l)) e

module _ (n p : List ℕ) (g : Accepted n p) (i : ℕ) (hi : i < (plan_sizes p).steps) (l : ℕ) (hl : l < (network_sizes n).links) where
  abbrev N : Net
  N = network_of n

  abbrev P : Plan
  P = plan_of p

  kept : (b : Bound) → worst_over 1 N P i l b ≡ false
  unfolding step_count network_of plan_of
  kept b = none_kept 1 N P g.kept i l (omega (arith, hi)) hl b

  pub link-protected : worst_load N P i l protected ≤ P.parts * N.cap l
  link-protected = protected-within N P i l (kept protected)

  pub link-total : 1000 * worst_load N P i l total ≤ (1000 + N.overrun) * (P.parts * N.cap l)
  link-total = total-within N P i l (kept total)

  capacity-low : P.parts * N.cap l ≤ most_steps * most_amount
  unfolding plan_of
  capacity-low = mul-le-mul g.both.plan.parts.1 (cap-most n l (network_sizes n).links g.both.network.ranges.links hl)

  raised-low : (1000 + N.overrun) * (P.parts * N.cap l) ≤ (1000 + most_share) * (most_steps * most_amount)
  unfolding network_of
  raised-low =
      let few : at n 2 ≤ most_share = ⊎_elim (λ e. omega (arith, e)) (λ h. h.1) g.both.network.ranges.overrun in
      let most : 1000 + N.overrun ≤ 1000 + most_share = omega (arith, few) in
      mul-le-mul most capacity-low

  link_fits : Fits (suc i) l (P.parts * N.cap l) (worst_load N P i l protected) (worst_load N P i l total)
  link_fits = record {
    first = omega (arith, hi, g.both.plan.steps);
    second = omega (arith, hl, g.both.network.ranges.sized.counts);
    third = omega (arith, capacity-low);
    fourth = omega (arith, link-protected, capacity-low);
    fifth = omega (arith, link-total, raised-low);
  }

  -- the numbers of a line as the code has them
  pub link-line : {a b c d e : ℕ} → a ≡ suc i → b ≡ l → c ≡ P.parts * N.cap l → d ≡ worst_load N P i l protected → e ≡ worst_load N P i l total
      → Fits a b c d e × (numbers a b c d e ≡ link_fields N P i l)
  unfolding link_fields
  link-line ea eb ec ed ee = rw (ea, eb, ec, ed, ee) (link_fits, refl)

  pub link-length : length (line (link_fields N P i l)) ≡ line_size
  unfolding link_fields
  link-length = numbers-length link_fits

module _ (n : List ℕ) (g : GoodNetwork n) (t : ℕ) (ht : t < (network_sizes n).tunnels) where
  tunnel-fits : Fits t ((network_of n).flow t) (hops (network_of n) t) ((network_of n).old t) ((network_of n).new t)
  unfolding network_of hops
  tunnel-fits = record {
    first = omega (arith, ht, g.ranges.sized.counts);
    second = omega (arith, g.ranges.tunnels.flow t ht, g.ranges.sized.counts);
    third = omega (arith, ones-le (network_sizes n).links _ (g.ranges.tunnels.via t ht).1, g.ranges.sized.counts);
    fourth = omega (arith, g.ranges.tunnels.old t ht);
    fifth = omega (arith, g.ranges.tunnels.new t ht);
  }

  pub tunnel-line : {a b c d e : ℕ} → a ≡ t → b ≡ (network_of n).flow t → c ≡ hops (network_of n) t → d ≡ (network_of n).old t → e ≡ (network_of n).new t
      → Fits a b c d e × (numbers a b c d e ≡ tunnel_fields (network_of n) t)
  unfolding tunnel_fields
  tunnel-line ea eb ec ed ee = rw (ea, eb, ec, ed, ee) (tunnel-fits, refl)

  pub tunnel-length : length (line (tunnel_fields (network_of n) t)) ≡ line_size
  unfolding tunnel_fields
  tunnel-length = numbers-length tunnel-fits
