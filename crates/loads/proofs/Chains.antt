-- Laws of chains: how they are made, and what the tunnels of one have gathered at each turn.
use Prim.Native.Nat.{ℕ, zero, suc, ◌+◌, ◌*◌, ◌^◌, ◌≤◌, ◌<◌}
use mathlib.Core.Path.{◌≡◌, refl, sym, ap, ◌∙◌, subst}
use mathlib.Core.Logic.{⊎_elim}
use mathlib.Core.Bool.{Bool, true, false, cond, ◌&&◌}
use mathlib.Core.List.{List}
use native.Mathlib.Omega.{arith}
use native.Mathlib.Nat.{eq-or-lt_of_le}
use native.Mathlib.Numerals.{add-one}
use borrow.Author.Tests.{eqb-true, eqb-false, eq-eqb, ne_eqb}
use lib.Bits.{bit_or, or_lt}
use lib.Pow.{pow_pos}
use lib.Dec.{eqb}
use lib.ListN.{length, get_or, set, replicate, length-set, length-replicate, get_or-replicate}
use lib.Seq.{get_or-set_same, get_or-set_other}
use Rattle.std.specs.Prelude.{Option, Some, None}
use Rattle.model.specs.Limits.{most_links, most_flows, most_tunnels, most_steps, most_amount}
use Rattle.model.specs.Sets.{in_set}
use Rattle.model.proofs.Searches.{bool_cases, cond-most}
use Rattle.model.proofs.Sets.{or-outside}
use Rattle.lists.specs.Lists.{at, network_of}
use Rattle.lists.specs.Good.{GoodNetwork}
use Rattle.loads.specs.Gathered.{gathered, of_flow}
use Rattle.loads.specs.Tables.{block_rows, number_at, AmountTable, Cleared, AddableOn, AddedOn}
use Rattle.loads.specs.Flows.{chain_end, chain_at, LastOf, Chain, Chains, Downward, sums_size, ChainSums}
use Rattle.loads.proofs.Vectors.{last_or, added-sum}
use Rattle.loads.proofs.Passes.{gathered_none, gathered-more}

-- ---- the last tunnel of a kind

module _ (c : ℕ → Bool) (n : ℕ) where
  pub last-here : c n ≡ true → LastOf c (n + 1) (n + 1)
  last-here e = record {
    low = omega arith;
    none = λ t h k. absurd (omega arith);
    own = λ t q. let same : n ≡ t = omega (arith, q) in subst (λ (u : ℕ). c u ≡ true) same e;
  }

  pub last-past : (m : ℕ) → c n ≡ false → LastOf c n m → LastOf c (n + 1) m
  last-past m e a = record {
    low = omega (arith, a.low);
    none = λ t h k. last_or t n k (λ q. ap c q ∙ e) (λ g. a.none t h g);
    own = a.own;
  }

-- ---- the chains of all flows

of-same : (flow : ℕ → ℕ) (t f : ℕ) → flow t ≡ f → of_flow flow f t ≡ true
unfolding of_flow
of-same flow t f e = eq-eqb (flow t) f e

of-true : (flow : ℕ → ℕ) (t f : ℕ) → of_flow flow f t ≡ true → flow t ≡ f
unfolding of_flow
of-true flow t f e = eqb-true (flow t) f e

of_other : (flow : ℕ → ℕ) (t f : ℕ) → (flow t ≡ f → ⊥) → of_flow flow f t ≡ false
unfolding of_flow
of_other flow t f e = ne_eqb (flow t) f e

chain_same : (s : List (Option ℕ)) (i j : ℕ) (v : Option ℕ) → i < length s → j ≡ i → chain_at (set s i v) j ≡ chain_end v
chain_same s i j v h e = ap (chain_at (set s i v)) e ∙ ap chain_end (get_or-set_same s i v None h)

chain_other : (s : List (Option ℕ)) (i j : ℕ) (v : Option ℕ) → (j ≡ i → ⊥) → chain_at (set s i v) j ≡ chain_at s j
chain_other s i j v h = ap chain_end (get_or-set_other s i j v None h)

module _ (flow : ℕ → ℕ) where
  pub chains-none : (last prior : List (Option ℕ)) → last ≡ replicate most_flows None → length prior ≡ most_tunnels → Chains flow 0 last prior
  chains-none last prior e h = record {
    size = (ap length e ∙ length-replicate {A = Option ℕ} most_flows None, h);
    starts = λ f hf.
        let z : chain_at last f ≡ 0 = ap (λ (s : List (Option ℕ)). chain_at s f) e ∙ ap chain_end (get_or-replicate {A = Option ℕ} most_flows f None None hf) in
        record { low = omega (arith, z); none = λ t _ k. absurd (omega arith); own = λ t q. absurd (omega (arith, z, q)) };
    on = λ t k. absurd (omega arith);
  }

  pub chains-more : (n f : ℕ) (last prior : List (Option ℕ)) → n < most_tunnels → f < most_flows → f ≡ flow n → Chains flow n last prior → Chains flow (n + 1) (set last f (Some n)) (set prior n (get_or last f None))
  chains-more n f last prior hn hf own a = record {
    size = (length-set last _ _ ∙ a.size.0, length-set prior _ _ ∙ a.size.1);
    starts = λ g k.
        ⊎_elim
        (λ e.
        let same : g ≡ f = eqb-true g f e in
        subst (λ (m : ℕ). LastOf (of_flow flow g) (n + 1) m)
        (sym (chain_same last f g (Some n) (omega (arith, a.size.0)) same))
        (last-here (of_flow flow g) n (of-same flow n g (sym (same ∙ own)))))
        (λ e.
        let other : g ≡ f → ⊥ = eqb-false g f e in
        subst (λ (m : ℕ). LastOf (of_flow flow g) (n + 1) m)
        (sym (chain_other last f g (Some n) other))
        (last-past (of_flow flow g) n (chain_at last g) (of_other flow n g (λ q. other (sym q ∙ sym own))) (a.starts g k)))
        (bool_cases (eqb g f));
    on = λ t k.
        last_or t n k
        (λ e.
        subst (λ (u : ℕ). LastOf (of_flow flow (flow u)) u (chain_at (set prior n (get_or last f None)) u)) (sym e)
        (subst (λ (m : ℕ). LastOf (of_flow flow (flow n)) n m) (sym (chain_same prior n n _ (omega (arith, a.size.1)) refl))
        (subst (λ (i : ℕ). LastOf (of_flow flow i) n (chain_at last f)) own (a.starts f hf))))
        (λ g. subst (λ (m : ℕ). LastOf (of_flow flow (flow t)) t m) (sym (chain_other prior n t _ (λ q. omega (arith, q)))) (a.on t g));
  }

  module _ (n : ℕ) (last prior : List (Option ℕ)) (a : Chains flow n last prior) where
    pub chain-of : (f : ℕ) → f < most_flows → Chain (of_flow flow f) prior n (chain_at last f)
    chain-of f h = record {
      start = a.starts f h;
      on = λ t k e. subst (λ (g : ℕ). LastOf (of_flow flow g) t (chain_at prior t)) (of-true flow t f e) (a.on t k);
    }

-- ---- along a chain

-- tunnels that are not picked gather nothing
pub gathered-past : (via : ℕ → ℕ) (c : ℕ → Bool) (x : ℕ → ℕ) (m n l : ℕ) → m ≤ n → ((t : ℕ) → m ≤ t → t < n → c t ≡ false) → gathered via c x m l ≡ gathered via c x n l
gathered-past via c x m zero l h e = ap (λ (k : ℕ). gathered via c x k l) (omega arith)
gathered-past via c x m (suc n) l h e =
    ⊎_elim
    (λ (q : m ≡ suc n). ap (λ (k : ℕ). gathered via c x k l) q)
    (λ (g : m < suc n).
    let low : m ≤ n = omega arith in
    let none = e n low (omega arith) in
    gathered-past via c x m n l low (λ t a b. e t a (omega arith))
    ∙ sym (ap (λ (k : ℕ). gathered via c x k l) (sym (add-one n)) ∙ gathered-more via c x n l ∙ ap (λ (b : Bool). gathered via c x n l + cond (b && in_set (via n) l) (x n) 0) none ∙ omega arith))
    (eq-or-lt_of_le {n = m} {m = suc n} h)

-- the sets of m tunnels and their amounts in the rows of the block
pub record Summable (links : ℕ) (via : ℕ → ℕ) (amounts : List ℕ) (m : ℕ) : Type 0 where
  pub few : (links ≤ most_links) × (m ≤ most_tunnels)
  pub sets : (t : ℕ) → t < m → via t < 2 ^ links
  pub table : AmountTable most_tunnels amounts

pub summable : (l : List ℕ) (m : ℕ) → GoodNetwork l → m ≤ (network_of l).tunnels → (amounts : List ℕ) → AmountTable most_tunnels amounts → Summable (network_of l).links (network_of l).via amounts m
unfolding network_of
summable l m g h amounts a = record {
  few = (omega (arith, g.ranges.sized.counts), omega (arith, g.ranges.sized.counts));
  sets = λ t k. (g.ranges.tunnels.via t (omega arith)).1;
  table = a;
}

module _ (links : ℕ) (via : ℕ → ℕ) (prior : List (Option ℕ)) (m : ℕ) (amounts : List ℕ) where
  abbrev amount : ℕ → ℕ → ℕ
  amount k t = at amounts (number_at t k)

  -- what is left of a chain is from here on, and the tunnels that c picks are summed above
  pub record Left (c : ℕ → Bool) (n from : ℕ) (sums : List ℕ) : Type 0 where
    pub own : (t : ℕ) → from ≡ t + 1 → c t ≡ true
    pub each : (l k : ℕ) → l < links → k < block_rows → at sums (number_at l k) + gathered via c (amount k) from l ≡ gathered via c (amount k) n l

  pub record Walking (from set : ℕ) (sums : List ℕ) : Type 0 where
    pub low : from ≤ m
    pub size : length sums ≡ sums_size
    pub most : (l k : ℕ) → l < links → k < block_rows → at sums (number_at l k) + from * (most_amount * most_steps) ≤ m * (most_amount * most_steps)
    pub links_of : set < 2 ^ links
    pub outside : (l k : ℕ) → l < links → k < block_rows → in_set set l ≡ false → at sums (number_at l k) ≡ 0
    pub left : (c : ℕ → Bool) (n : ℕ) → Chain c prior n m → Left c n from sums

  pub walk_start : (k : ℕ) (s₀ s : List ℕ) → k ≡ links → length s₀ ≡ sums_size → Cleared k s₀ s → Walking m 0 s
  walk_start n s₀ s q h z =
      let zero-at : (l k : ℕ) → l < links → k < block_rows → at s (number_at l k) ≡ 0 = λ l k hl hk. z.each (number_at l k) (omega arith) in
      record {
        low = omega arith;
        size = z.size ∙ h;
        most = λ l k hl hk. omega (arith, zero-at l k hl hk);
        links_of = pow_pos links;
        outside = λ l k hl hk _. zero-at l k hl hk;
        left = λ c n g. record {
          own = g.start.own;
          each = λ l k hl hk. omega (arith, zero-at l k hl hk, gathered-past via c (amount k) m n l g.start.low g.start.none);
        };
      }

  pub walk_end : (from set : ℕ) (s : List ℕ) → m ≤ most_tunnels → from ≡ 0 → Walking from set s → ChainSums links via prior m amounts set s
  walk_end from set s few e w = record {
    within = record { size = w.size; most = λ l k hl hk. omega (arith, w.most l k hl hk, few) };
    links_of = w.links_of;
    outside = w.outside;
    each = λ c n h l k hl hk.
        omega (
          arith,
          (w.left c n h).each l k hl hk,
          ap (λ (i : ℕ). gathered via c (amount k) i l) e,
          gathered_none via c (amount k) l,
        );
  }

  -- the tunnel at which the chain is
  module _ (from : Option ℕ) (t set : ℕ) (s : List ℕ) (is : from ≡ Some t) (w : Walking (chain_end from) set s) (a : Summable links via amounts m) where
    e : chain_end from ≡ t + 1
    e = ap chain_end is

    pub walk-tunnel : t < m
    walk-tunnel = omega (arith, w.low, e)

    pub walk-room : AddableOn links amounts t (via t) s 1 0
    walk-room =
        let there : (l k : ℕ) → number_at (1 * l + 0) k ≡ number_at l k = λ l k. omega arith in
        record {
          few = (a.few.0, omega arith, omega arith);
          links_of = a.sets t walk-tunnel;
          source = record { few = omega (arith, walk-tunnel, a.few); room = omega (arith, walk-tunnel, a.few, a.table.size) };
          target = record { few = omega (arith, a.few); room = omega (arith, a.few, w.size) };
          fits = λ l k hl hk. rw (there l k) (omega (arith, e, w.most l k hl hk, a.table.within t k (omega (arith, walk-tunnel, a.few)) hk, a.few));
        }

    -- its amounts are added on the links of its set
    module _ (s₁ : List ℕ) (d : AddedOn links (in_set (via t)) (λ _ k. at amounts (number_at t k)) 1 0 s s₁) where
      added : (l k : ℕ) → l < links → k < block_rows → at s₁ (number_at l k) ≡ at s (number_at l k) + cond (in_set (via t) l) (amount k t) 0
      added l k hl hk = added-sum links _ _ s s₁ d l k hl hk

      pub walk-on : Downward prior m → Walking (chain_at prior t) (bit_or set (via t)) s₁
      walk-on down = record {
        low = omega (arith, down.each t walk-tunnel, walk-tunnel);
        size = d.size ∙ w.size;
        most = λ l k hl hk.
            omega (
              arith,
              added l k hl hk,
              cond-most (in_set (via t) l) (amount k t),
              a.table.within t k (omega (arith, walk-tunnel, a.few)) hk,
              w.most l k hl hk,
              down.each t walk-tunnel,
              e,
            );
        links_of = or_lt links set (via t) w.links_of (a.sets t walk-tunnel);
        outside = λ l k hl hk o.
            let out = or-outside set (via t) l o in
            added l k hl hk ∙ omega (arith, w.outside l k hl hk out.0, ap (λ (x : Bool). cond x (amount k t) 0) out.1);
        left = λ c n h.
            let v = w.left c n h in
            let o = h.on t (omega (arith, walk-tunnel, h.start.low)) (v.own t e) in
            record {
              own = o.own;
              each = λ l k hl hk.
                  omega (
                    arith,
                    added l k hl hk,
                    gathered-past via c (amount k) (chain_at prior t) t l o.low o.none,
                    ap (λ (i : ℕ). gathered via c (amount k) i l) e,
                    gathered-more via c (amount k) t l,
                    ap (λ (x : Bool). cond (x && in_set (via t) l) (amount k t) 0) (v.own t e),
                    v.each l k hl hk,
                  );
            };
      }
