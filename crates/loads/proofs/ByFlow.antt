-- Laws of the loads that are gathered flow by flow.
use Prim.Native.Nat.{ℕ, zero, suc, ◌+◌, ◌*◌, ◌≤◌, ◌<◌}
use mathlib.Core.Path.{◌≡◌, refl, sym, ap, ap₂, ◌∙◌}
use mathlib.Core.Logic.{⊎_elim}
use mathlib.Core.Bool.{Bool, true, false, cond, ◌&&◌}
use mathlib.Core.List.{List}
use Rattle.std.specs.Prelude.{Option}
use native.Mathlib.Omega.{arith}
use native.Mathlib.Nat.{le_trans, mul-le-mul_right}
use lib.Dec.{eqb, leb}
use lib.ListN.{length}
use Rattle.model.specs.Limits.{most_links, most_flows, most_tunnels, most_steps, most_amount}
use Rattle.model.specs.Sets.{in_set}
use Rattle.model.specs.Sum.{sum_over}
use Rattle.model.proofs.Searches.{bool_cases, cond-most}
use Rattle.model.proofs.Sums.{sum-zero, sum-next, sum-cong, sum_both}
use Rattle.model.proofs.Largests.{largest-le, largest-cong}
use Rattle.lists.specs.Lists.{at}
use Rattle.loads.specs.Gathered.{of_flow, largest_sum, gathered_by_flow}
use Rattle.loads.specs.Tables.{block_rows, number_at, load_at, loads_size, part_of, in_part, LoadsWithin, Cleared, Addable, VectorAdded, AddedOn}
use Rattle.loads.specs.Windows.{largest_at, WidenedOn}
use Rattle.loads.specs.Flows.{Chain, SumsWithin, ChainSums, FlowLoads}
use Rattle.loads.proofs.Vectors.{added-part, added_more, added-same}
use Rattle.loads.proofs.Widening.{picked-once, widened_more}
use Rattle.loads.proofs.Passes.{gathered-cong, part-cases}

-- ---- flow by flow

-- sums over tests that agree
sum-test : (n : ℕ) (p q : ℕ → Bool) (x : ℕ → ℕ) → ((t : ℕ) → t < n → p t ≡ q t) → sum_over n p x ≡ sum_over n q x
unfolding sum_over
sum-test zero p q x h = refl
sum-test (suc n) p q x h = ap₂ ◌+◌ (sum-test n p q x (λ t k. h t (omega arith))) (ap (λ (b : Bool). cond b (x n) 0) (h n (omega arith)))

-- what counts on both sides alike is gathered alike
pub by-flow-cong : (via via' flow : ℕ → ℕ) (c c' : ℕ → Bool) (w : ℕ) (x x' : ℕ → ℕ → ℕ) (n m l : ℕ) → ((t : ℕ) → t < n → via t ≡ via' t) → ((f : ℕ) → f < m → c f ≡ c' f)
    → ((k t : ℕ) → k ≤ w → t < n → x k t ≡ x' k t) → gathered_by_flow via flow c w x n m l ≡ gathered_by_flow via' flow c' w x' n m l
unfolding gathered_by_flow largest_sum
by-flow-cong via via' flow c c' w x x' n m l hv hc hx =
    sum-test m c c' _ hc
    ∙ sum-cong m c' (λ f _ _. largest-cong w _ _ (λ k hk. gathered-cong via via' (of_flow flow f) (of_flow flow f) (x k) (x' k) n l hv (λ t _. refl) (λ t ht. hx k t hk ht)))

-- both parts together are all flows
pub by-flow-parts : (via flow class : ℕ → ℕ) (w : ℕ) (x : ℕ → ℕ → ℕ) (n m l : ℕ)
    → gathered_by_flow via flow (in_part class 0) w x n m l + gathered_by_flow via flow (in_part class 1) w x n m l ≡ gathered_by_flow via flow (λ f. true) w x n m l
unfolding gathered_by_flow in_part
by-flow-parts via flow class w x n m l = sum_both m (in_part class 0) (in_part class 1) (λ f. true) _ (λ f u. part-cases (leb (class f) 1) u)

-- ---- a flow's largest sums

-- of the links that c picks the sums are widened and added to the loads
pub record Both (links part times : ℕ) (sums s : List ℕ) (c : ℕ → Bool) (now : List ℕ × List ℕ) : Type 0 where
  pub widened : WidenedOn times c sums now.0
  pub added : AddedOn links c (λ l k. at now.0 (number_at l k)) 2 part s now.1

module _ (links part times : ℕ) (sums s : List ℕ) (hp : part < 2) where
  -- one link more: its sums are widened, which leaves those of the others, and added
  pub both-more : (c e : ℕ → Bool) (z : ℕ) (sums₁ sums₂ s₁ s₂ : List ℕ) → z < links → ((l x : ℕ) → cond (c l) x 0 + cond (eqb l z) x 0 ≡ cond (e l) x 0) → Both links part times sums s c (sums₁, s₁)
      → WidenedOn times (λ l. eqb l z) sums₁ sums₂ → VectorAdded (2 * z + part) (λ k. at sums₂ (number_at z k)) s₁ s₂ → Both links part times sums s e (sums₂, s₂)
  both-more c e z sums₁ sums₂ s₁ s₂ hz both b w v = record {
    widened = widened_more times c e z sums sums₁ sums₂ both b.widened w;
    added = added_more links 2 part hp c e (λ l k. at sums₂ (number_at l k)) z s s₁ s₂ hz (added-same links 2 part hp c _ _ s s₁ (λ l k hk t. sym (w.others l k hk (picked-once c e z both l t))) b.added) v both;
  }

  -- its sums can be added
  pub largest-fits : (c d : ℕ → Bool) (z : ℕ) (sums₁ sums₂ s₁ : List ℕ) → links ≤ most_links → z < links → SumsWithin links sums → LoadsWithin links (most_flows * most_tunnels) s
      → Both links part times sums s c (sums₁, s₁) → WidenedOn times d sums₁ sums₂ → Addable sums₂ z s₁ (2 * z + part)
  largest-fits c d z sums₁ sums₂ s₁ few hz a r b v =
      let low : (k : ℕ) → k < block_rows → at sums₁ (number_at z k) ≤ most_tunnels * (most_amount * most_steps) = b.widened.most z _ (λ k hk. a.most z k hz hk) in
      record {
        source = record { few = omega arith; room = omega (arith, v.size, b.widened.size, a.size) };
        target = record { few = omega arith; room = omega (arith, b.added.size, r.size) };
        fits = λ k hk.
            omega (
              arith,
              b.added.here z k hz hk,
              r.most part z k hp hz hk,
              low k hk,
              v.most z _ low k hk,
              cond-most (c z) (at sums₁ (number_at z k)),
            );
      }

-- what a set has not is 0, so that it does not matter whether it is added
inside : (b c : Bool) (x : ℕ) → (c ≡ false → x ≡ 0) → cond (b && c) x 0 ≡ cond b x 0
inside true true x h = refl
inside true false x h = sym (h refl)
inside false c x h = refl

neither : (b : Bool) (x y : ℕ) → cond (b && false) x 0 ≡ cond (b && false) y 0
neither true x y = refl
neither false x y = refl

module _ (links : ℕ) (via flow : ℕ → ℕ) (n : ℕ) (class : ℕ → ℕ) (times : ℕ) (amounts : List ℕ) where
  abbrev sum_of : ℕ → ℕ → ℕ → ℕ
  sum_of l k f = largest_sum via (of_flow flow f) times (λ a t. at amounts (number_at t (k + a))) n l

  pub flows-none : (s₀ s : List ℕ) → length s₀ ≡ loads_size → Cleared (2 * links) s₀ s → FlowLoads links via flow n class 0 times amounts s
  unfolding gathered_by_flow
  flows-none s₀ s h z = record {
    size = z.size ∙ h;
    each = λ q l k hq hl hk. z.each (load_at l q k) (omega arith) ∙ sym (sum-zero (in_part class q) (sum_of l k));
  }

  pub flows-more : (f m set part : ℕ) (prior : List (Option ℕ)) (sums sums₁ s s₁ : List ℕ) → (part ≡ part_of (class f)) × (part < 2) → Chain (of_flow flow f) prior n m
      → ChainSums links via prior m amounts set sums → WidenedOn times (in_set set) sums sums₁ → FlowLoads links via flow n class f times amounts s
      → AddedOn links (in_set set) (λ l k. at sums₁ (number_at l k)) 2 part s s₁ → FlowLoads links via flow n class (f + 1) times amounts s₁
  unfolding gathered_by_flow largest_sum largest_at in_part
  flows-more f m set part prior sums sums₁ s s₁ p c a w g d = record {
    size = d.size ∙ g.size;
    each = λ q l k hq hl hk.
        let e : largest_at times sums l k ≡ sum_of l k f = largest-cong times _ _ (λ b hb. a.each (of_flow flow f) n c l (k + b) hl (omega arith)) in
        let none : in_set set l ≡ false → sum_of l k f ≡ 0 =
        λ o. let z = largest-le times (λ b. at sums (number_at l (k + b))) 0 (λ b hb. omega (arith, a.outside l (k + b) hl (omega arith) o)) in omega (arith, z, e) in
        let added : cond (eqb part q && in_set set l) (at sums₁ (number_at l k)) 0 ≡ cond (eqb part q && in_set set l) (sum_of l k f) 0 =
        ⊎_elim (λ o. rw o (ap (λ (y : ℕ). cond (eqb part q && true) y 0) (w.here l k hk o ∙ e))) (λ o. rw o (neither (eqb part q) _ _)) (bool_cases (in_set set l)) in
        added-part links part _ _ s s₁ p.1 d q l k hq hl (omega arith)
        ∙ ap₂ ◌+◌ (g.each q l k hq hl hk) (added ∙ ap (λ (b : ℕ). cond (eqb b q && in_set set l) (sum_of l k f) 0) p.0 ∙ inside (in_part class q f) (in_set set l) (sum_of l k f) none)
        ∙ sym (sum-next f (in_part class q) (sum_of l k));
  }

-- ---- room for the loads: each flow adds no more than all tunnels' amounts

pub room-none : (links : ℕ) (s₀ s : List ℕ) → length s₀ ≡ loads_size → Cleared (2 * links) s₀ s → LoadsWithin links (0 * most_tunnels) s
room-none links s₀ s h z = record { size = z.size ∙ h; most = λ q l k hq hl hk. omega (arith, z.each (load_at l q k) (omega arith)) }

pub room-more : (links f part times : ℕ) (c d : ℕ → Bool) (sums sums₁ s s₁ : List ℕ) → part < 2 → SumsWithin links sums → WidenedOn times d sums sums₁ → LoadsWithin links (f * most_tunnels) s
    → AddedOn links c (λ l k. at sums₁ (number_at l k)) 2 part s s₁ → LoadsWithin links ((f + 1) * most_tunnels) s₁
room-more links f part times c d sums sums₁ s s₁ hp a w b o = record {
  size = o.size ∙ b.size;
  most = λ q l k hq hl hk.
      omega (
        arith,
        added-part links part _ _ s s₁ hp o q l k hq hl hk,
        b.most q l k hq hl hk,
        w.most l _ (λ i hi. a.most l i hl hi) k hk,
        cond-most (eqb part q && c l) (at sums₁ (number_at l k)),
      );
}

pub room-enough : (links k n m : ℕ) (s : List ℕ) → k ≤ links → n ≤ m → LoadsWithin links n s → LoadsWithin k m s
room-enough links k n m s l h b = record { size = b.size; most = λ q z i hq hz hi. le_trans (b.most q z i hq (omega arith) hi) (mul-le-mul_right (most_amount * most_steps) h) }
