-- Laws of blocks: the loads gathered from their tables of amounts are the rule's.
use Prim.Native.Nat.{ℕ, suc, ◌+◌, ◌-◌, ◌*◌, ◌≤◌, ◌<◌, min, max}
use mathlib.Core.Path.{◌≡◌, refl, sym, ap, ap₂, ◌∙◌, subst}
use mathlib.Core.Logic.{⊎_elim}
use mathlib.Core.Bool.{Bool, true, false, cond}
use mathlib.Core.List.{List}
use native.Mathlib.Omega.{arith}
use borrow.Author.Tests.{lt-ltb}
use lib.Dec.{eqb, ltb}
use lib.ListN.{length}
use Rattle.model.specs.Limits.{most_flows, most_tunnels, most_lag}
use Rattle.model.specs.Largest.{largest}
use Rattle.model.specs.Scan.{Bound}
use Rattle.model.specs.Net.{Net, Plan, row}
use Rattle.model.specs.Rule.{by_flow, counts, load, step_count, reach, worst}
use Rattle.model.proofs.Gathered.{counts-by-tunnel, counts-by-flow}
use Rattle.model.proofs.Largests.{largest-cong}
use Rattle.model.proofs.Searches.{bool_cases}
use Rattle.lists.specs.Lists.{at, network_sizes, network_of, plan_sizes, plan_of}
use Rattle.loads.specs.Claim.{worst_amount}
use Rattle.loads.specs.Gathered.{gathered, gathered_by_flow}
use Rattle.loads.specs.Tables.{block_rows, number_at, load_at, loads_size, in_part, class_of, AmountTable, LoadsWithin, Loads}
use Rattle.loads.specs.Windows.{largest_at, WidenedOn}
use Rattle.loads.specs.Flows.{FlowLoads}
use Rattle.loads.proofs.Passes.{gathered-cong, gathered-parts, loads-within}
use Rattle.loads.proofs.Widening.{largest-pairs}
use Rattle.loads.proofs.ByFlow.{by-flow-cong, by-flow-parts}
use Rattle.loads.proofs.Main.{gathering}
use Rattle.amounts.specs.declared.columns.Bounds.{Bounds}
use Rattle.amounts.specs.Columns.{AllBounds, bounds_at}
use Rattle.amounts.specs.Rows.{Checkable, larger_row, RowAmounts}
use Rattle.amounts.proofs.Windows.{window-in, window-reach}
use Rattle.overloads.specs.Inner.{over_cause}
use Rattle.overloads.specs.Blocks.{times_widened, block_steps, Gathers, InBlock, NextInBlock}
use Rattle.overloads.proofs.Overloads.{over_in, over-same}

-- ---- how many times the amounts are widened

module _ (w : ℕ) (N : Net) (P : Plan) where
  pub times-tunnel : by_flow N ≡ false → times_widened w N P ≡ min w P.steps - 1
  unfolding times_widened
  times-tunnel e = ap (λ (b : Bool). cond b (min w P.steps) (min w P.steps - 1)) e

  pub times-flow : by_flow N ≡ true → times_widened w N P ≡ min w P.steps
  unfolding times_widened
  times-flow e = ap (λ (b : Bool). cond b (min w P.steps) (min w P.steps - 1)) e

  pub times-few : w ≤ most_lag → times_widened w N P ≤ most_lag
  times-few h = ⊎_elim (λ e. omega (arith, times-flow e)) (λ e. omega (arith, times-tunnel e)) (bool_cases (by_flow N))

  pub block-few : block_steps w N P ≤ block_rows
  unfolding block_steps
  block-few = omega arith

  -- a step of the block has its window in it
  pub block_in : (k : ℕ) → k < block_steps w N P → k + times_widened w N P < block_rows
  unfolding block_steps
  block_in k h = omega (arith, h)

-- how many steps are looked at
pub steps-counted : (w : ℕ) (N : Net) (p : List ℕ) → step_count w N (plan_of p) ≡ suc ((plan_sizes p).steps - w)
unfolding step_count plan_of
steps-counted w N p = refl

-- ---- the loads of a block

part-0 : (b : Bool) → eqb (cond b 0 1) 0 ≡ b
part-0 true = refl
part-0 false = refl

-- widened amounts are amounts
pub widened-table : (n times : ℕ) (amounts wide : List ℕ) → AmountTable most_tunnels amounts → WidenedOn times (λ j. ltb j n) amounts wide → AmountTable most_tunnels wide
widened-table n times amounts wide a v = record { size = v.size ∙ a.size; within = λ t k ht hk. v.most t _ (λ i hi. a.within t i ht hi) k hk }

module _ (w : ℕ) (l p : List ℕ) (c : Checkable l p) (i : ℕ) where
  abbrev N : Net
  N = network_of l

  abbrev P : Plan
  P = plan_of p

  module _ (one : by_flow N ≡ false) (some : 1 ≤ w) (amounts wide loads : List ℕ) (table : AmountTable most_tunnels wide)
      (a : RowAmounts (larger_row N P) (network_sizes l).tunnels (plan_sizes p).steps i block_rows amounts)
      (v : WidenedOn (times_widened w N P) (λ j. ltb j (network_sizes l).tunnels) amounts wide)
      (g : Loads N.links N.via (class_of N) N.tunnels wide loads) where
    -- the largest of the larger ones of two rows is the largest in the window
    worst-in : (k u : ℕ) → k < block_steps w N P → i + k < step_count w N P → u < (network_sizes l).tunnels → at wide (number_at u k) ≡ worst_amount w N P (i + k) u
    unfolding worst_amount larger_row largest_at plan_of
    worst-in k u hk hs hu =
        let m : ℕ = times_widened w N P in
        let e : suc m ≡ reach w P (i + k) = omega (arith, times-tunnel w N P one, window-reach w N P (i + k) hs, some, c.plan.steps) in
        let low : k + m < block_rows = block_in w N P k hk in
        let end : i + k + min w P.steps ≤ P.steps = window-in w N P (i + k) hs in
        let first : (b : ℕ) → i + (k + b) ≡ i + k + b = λ b. omega arith in
        let next : (b : ℕ) → suc (i + (k + b)) ≡ i + k + suc b = λ b. omega arith in
        v.here u k low (lt-ltb u _ hu)
        ∙ largest-cong m _ _ (λ b hb.
        a.each u (k + b) hu (omega arith) (omega (arith, e, window-reach w N P (i + k) hs)) ∙ ap₂ (λ (x y : ℕ). max (row N P x u) (row N P y u)) (first b) (next b))
        ∙ largest-pairs m (λ b. row N P (i + k + b) u)
        ∙ ap (λ (n : ℕ). largest n (λ b. row N P (i + k + b) u)) e

    same : (x : ℕ → Bool) (y : Bound) (m k : ℕ) → k < block_steps w N P → i + k < step_count w N P → ((u : ℕ) → u < (network_sizes l).tunnels → x u ≡ counts N y u)
        → gathered N.via x (λ u. at wide (number_at u k)) (network_sizes l).tunnels m ≡ load N y (worst w N P (i + k) m)
    unfolding network_of
    same x y m k hk hs hx =
        gathered-cong N.via N.via x (counts N y) (λ u. at wide (number_at u k)) (worst_amount w N P (i + k)) (network_sizes l).tunnels m
        (λ u h. refl) hx
        (λ u h. worst-in k u hk hs h)
        ∙ gathering.tunnels w N P (i + k) m y one

    pub gathers : Gathers w N P i loads
    unfolding network_of in_part counts
    gathers =
        let few = c.network.ranges.sized.counts in
        record {
          within = loads-within _ _ _ _ (network_sizes l).tunnels most_tunnels (most_flows * most_tunnels) _ (omega (arith, few)) (omega (arith, few)) table g;
          protected = λ m k hm hk hs.
              let low = block_in w N P k hk in
              g.each 0 m k (omega arith) hm (omega (arith, low))
              ∙ same (in_part (class_of N) 0) Bound.protected m k hk hs (λ u h. part-0 _ ∙ sym (counts-by-tunnel N one u));
          total = λ m k hm hk hs.
              let low = block_in w N P k hk in
              ap₂ ◌+◌ (g.each 0 m k (omega arith) hm (omega (arith, low))) (g.each 1 m k (omega arith) hm (omega (arith, low)))
              ∙ gathered-parts N.via (class_of N) (λ u. at wide (number_at u k)) (network_sizes l).tunnels m
              ∙ same (λ u. true) Bound.total m k hk hs (λ u h. refl);
        }

  module _ (whole : by_flow N ≡ true) (amounts loads : List ℕ)
      (a : RowAmounts (row N P) (network_sizes l).tunnels ((plan_sizes p).steps + 1) i block_rows amounts) (r : LoadsWithin N.links (most_flows * most_tunnels) loads)
      (g : FlowLoads N.links N.via N.flow N.tunnels N.class N.flows (times_widened w N P) amounts loads) where
    abbrev summed : ℕ → ℕ → ℕ → ℕ
    summed k b u = at amounts (number_at u (k + b))

    same-flows : (x : ℕ → Bool) (y : Bound) (m k : ℕ) → k < block_steps w N P → i + k < step_count w N P → ((f : ℕ) → f < (network_sizes l).flows → x f ≡ counts N y f)
        → gathered_by_flow N.via N.flow x (times_widened w N P) (summed k) (network_sizes l).tunnels (network_sizes l).flows m ≡ load N y (worst w N P (i + k) m)
    unfolding network_of plan_of
    same-flows x y m k hk hs hx =
        let n : ℕ = times_widened w N P in
        let e : n ≡ reach w P (i + k) = times-flow w N P whole ∙ sym (window-reach w N P (i + k) hs) in
        let low : k + n < block_rows = block_in w N P k hk in
        let end : i + k + min w P.steps ≤ P.steps = window-in w N P (i + k) hs in
        let there : (b : ℕ) → i + (k + b) ≡ i + k + b = λ b. omega arith in
        by-flow-cong N.via N.via N.flow x (counts N y) n (summed k) (λ b. row N P (i + k + b)) (network_sizes l).tunnels (network_sizes l).flows m
        (λ u h. refl) hx
        (λ b u hb hu. a.each u (k + b) hu (omega arith) (omega (arith, times-flow w N P whole)) ∙ ap (λ (j : ℕ). row N P j u) (there b))
        ∙ ap (λ (j : ℕ). gathered_by_flow N.via N.flow (counts N y) j (λ b. row N P (i + k + b)) (network_sizes l).tunnels (network_sizes l).flows m) e
        ∙ gathering.flows w N P (i + k) m y whole

    pub flows-gather : Gathers w N P i loads
    unfolding network_of in_part counts
    flows-gather = record {
      within = r;
      protected = λ m k hm hk hs.
          g.each 0 m k (omega arith) hm (block_in w N P k hk) ∙ same-flows (in_part N.class 0) Bound.protected m k hk hs (λ f h. part-0 _ ∙ sym (counts-by-flow N whole f));
      total = λ m k hm hk hs.
          ap₂ ◌+◌ (g.each 0 m k (omega arith) hm (block_in w N P k hk)) (g.each 1 m k (omega arith) hm (block_in w N P k hk))
          ∙ by-flow-parts N.via N.flow N.class (times_widened w N P) (summed k) (network_sizes l).tunnels (network_sizes l).flows m
          ∙ same-flows (λ f. true) Bound.total m k hk hs (λ f h. refl);
    }

-- ---- from one step to the next

module _ (w : ℕ) (N : Net) (P : Plan) where
  pub in-first : (s : List ℕ) → w ≤ most_lag → length s ≡ loads_size → InBlock w N P 0 0 s
  unfolding block_steps
  in-first s h e = record { low = (omega arith, omega (arith, times-few w N P h)); size = e; gathers = λ o. absurd (o refl) }

  pub in-next : (i k r : ℕ) (s : List ℕ) → k ≤ i → NextInBlock k (block_steps w N P) r → Gathers w N P (i - k) s → InBlock w N P (i + 1) r s
  in-next i k r s h n g =
      let same : r ≡ k + 1 → i - k ≡ i + 1 - r = λ e. omega (arith, e) in
      record {
        low = (⊎_elim (λ e. omega (arith, e)) (λ e. omega (arith, e)) n.1, n.0);
        size = g.within.size;
        gathers = λ o. ⊎_elim (λ e. subst (λ (b : ℕ). Gathers w N P b s) (same e) g) (λ e. absurd (o e)) n.1;
      }

-- ---- the cause that is found on a link is the rule's

module _ (w : ℕ) (N : Net) (P : Plan) (i k l : ℕ) (hi : i < step_count w N P) (hk : (k ≤ i) × (k < block_steps w N P)) (hl : l < N.links) (bounds : List Bounds) (loads : List ℕ)
    (b : AllBounds N P.parts N.links bounds) (g : Gathers w N P (i - k) loads) where
  pub cause_in : over_cause (ltb (bounds_at bounds l).protected (at loads (load_at l 0 k))) (ltb (bounds_at bounds l).all (at loads (load_at l 0 k) + at loads (load_at l 1 k))) ≡ over_in w N P i l
  cause_in =
      let e : i - k + k ≡ i = omega (arith, hk) in
      let there : i - k + k < step_count w N P = subst (λ (j : ℕ). j < step_count w N P) (sym e) hi in
      ap₂ over_cause
      (ap₂ ltb (ap (λ (x : Bounds). x.protected) (b.each l hl)) (g.protected l k hl hk.1 there ∙ ap (λ (j : ℕ). load N Bound.protected (worst w N P j l)) e))
      (ap₂ ltb (ap (λ (x : Bounds). x.all) (b.each l hl)) (g.total l k hl hk.1 there ∙ ap (λ (j : ℕ). load N Bound.total (worst w N P j l)) e))
      ∙ over-same N P.parts l _ _
