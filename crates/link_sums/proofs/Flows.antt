-- The laws of the chains of tunnels, of a flow's sums, and of the tables that are gathered from them.
use Prim.Native.Nat.{ℕ, ◌+◌, ◌*◌, ◌≤◌, ◌<◌}
use mathlib.Core.Path.{◌≡◌, refl, sym, ap, ap₂, subst, ◌∙◌}
use mathlib.Core.Logic.{⊎_elim}
use mathlib.Core.Bool.{Bool, true, false, cond}
use mathlib.Core.List.{List}
use native.Mathlib.Omega.{arith}
use native.Mathlib.Nat.{add-zero, le_refl, eq-or-lt_of_le, le_of_suc-le-suc}
use native.Mathlib.Numerals.{add-one}
use lib.Bits.{bit_or}
use lib.Dec.{eqb}
use lib.ListN.{length, get_or, set, replicate, length-set, length-replicate, get_or-replicate}
use lib.Seq.{get_or-set_same, get_or-set_other}
use borrow.Author.Tests.{eqb-true, eqb-false}
use Rattle.std.specs.Prelude.{Option, None, Some}
use Rattle.model.specs.Limits.{most_links, most_flows, most_tunnels, most_amount}
use Rattle.model.specs.Sets.{in_set}
use Rattle.model.specs.Sum.{sum_over}
use Rattle.model.specs.Net.{Net}
use Rattle.model.specs.Rule.{crosses, across, flow_sum, by_flow}
use Rattle.model.proofs.Searches.{bool_cases, cond-most}
use Rattle.model.proofs.Sets.{or-outside}
use Rattle.model.proofs.Sums.{sum-zero, sum-take, sum-skip}
use Rattle.model.proofs.Movers.{on-flow}
use Rattle.lists.specs.Lists.{network_sizes, network_of}
use Rattle.link_sums.specs.declared.by_flow.Amounts.{Amounts}
use Rattle.link_sums.specs.declared.table.LinkSums.{LinkSums}
use Rattle.link_sums.specs.Tables.{Part, none, sum_at, amount, most_sums, Room, Added, on_part, Table, of_flow, up_to, LastOf, Chained, Side, of_side, side_at, FlowRoom, FlowAdded, FlowSums, NoneOutside, SumsAdded, WithFlow}
use Rattle.link_sums.proofs.Tables.{part-nothing, amount-most, part-mover, InRange, flow-most}

-- ---- the chains of tunnels

module _ (c : ℕ → Bool) (n : ℕ) where
  last_none : LastOf c 0 None
  last_none = record { low = omega arith; own = λ t e. absurd (none-some e); whole = λ x. refl }
    where
      none-some : {t : ℕ} → ◌≡◌ {A = Option ℕ} None (Some t) → ⊥
      none-some e = let z : ◌≡◌ {A = ℕ} 0 1 = cc in omega arith

  last-here : c n ≡ true → LastOf c (n + 1) (Some n)
  last-here e = record { low = le_refl _; own = λ t q. let same : n ≡ t = cc in subst (λ (k : ℕ). c k ≡ true) same e; whole = λ x. refl }

  last-past : (m : Option ℕ) → c n ≡ false → LastOf c n m → LastOf c (n + 1) m
  last-past m e a = record { low = omega (arith, a.low); own = a.own; whole = λ x. sum-skip n c x e ∙ a.whole x }

pub chains-none : (N : Net) (lasts priors : List (Option ℕ)) → lasts ≡ replicate most_flows None → length priors ≡ most_tunnels → Chained N 0 lasts priors
chains-none N lasts priors e h = record {
  size = (ap length e ∙ length-replicate {A = Option ℕ} most_flows None, h);
  last = λ f hf. subst (λ (m : Option ℕ). LastOf (of_flow N f) 0 m) (sym (ap (λ (l : List (Option ℕ)). get_or l f None) e ∙ get_or-replicate most_flows f None None hf)) (last_none _ 0);
  prior = λ t k. absurd (omega arith);
}

-- tunnel n, of flow f, is the last of its flow, and the last before comes before it
pub chains-more : (N : Net) (n f : ℕ) (lasts priors : List (Option ℕ)) → f ≡ N.flow n → n < most_tunnels → f < most_flows → Chained N n lasts priors
    → Chained N (n + 1) (set lasts f (Some n)) (set priors n (get_or lasts f None))
chains-more N n f lasts priors ef hn hf a = record {
  size = (length-set lasts f _ ∙ a.size.0, length-set priors n _ ∙ a.size.1);
  last = λ g hg.
      ⊎_elim
      (λ e.
      let same : g ≡ f = sym (ef ∙ eqb-true (N.flow n) g e) in
      subst (λ (m : Option ℕ). LastOf (of_flow N g) (n + 1) m)
      (sym (ap (λ (k : ℕ). get_or (set lasts f (Some n)) k None) same ∙ get_or-set_same lasts f (Some n) None (omega (arith, a.size.0)))) (last-here (of_flow N g) n e))
      (λ e.
      subst (λ (m : Option ℕ). LastOf (of_flow N g) (n + 1) m)
      (sym (get_or-set_other lasts f g (Some n) None (λ q. eqb-false (N.flow n) g e (sym (q ∙ ef))))) (last-past (of_flow N g) n _ e (a.last g hg)))
      (bool_cases (of_flow N g n));
  prior = λ t k.
      ⊎_elim
      (λ (e : t ≡ n).
      let here : get_or (set priors n (get_or lasts f None)) t None ≡ get_or lasts (N.flow n) None =
      ap (λ (j : ℕ). get_or (set priors n (get_or lasts f None)) j None) e ∙ get_or-set_same priors n (get_or lasts f None) None (omega (arith, a.size.1)) ∙ ap (λ (j : ℕ). get_or lasts j None) ef in
      subst (λ (u : ℕ). LastOf (of_flow N (N.flow u)) u (get_or (set priors n (get_or lasts f None)) t None)) (sym e)
      (subst (λ (m : Option ℕ). LastOf (of_flow N (N.flow n)) n m) (sym here) (a.last (N.flow n) (omega (arith, ef)))))
      (λ g. subst (λ (m : Option ℕ). LastOf (of_flow N (N.flow t)) t m) (sym (get_or-set_other priors n t (get_or lasts f None) None (λ q. omega (arith, q)))) (a.prior t g))
      (eq-or-lt_of_le (le_of_suc-le-suc (rw add-one at k)));
}

-- ---- an amount of each kind added to a flow's sums, link by link

-- a store that adds o and n to the sums of link i
store-side : (s : List Amounts) (i o n : ℕ) (p : Side) (j : ℕ) → i < length s
    → side_at (set s i (record { old = (get_or s i none).old + o; new = (get_or s i none).new + n })) p j ≡ side_at s p j + cond (eqb j i) (of_side o n p) 0
store-side s i o n p j h =
    ⊎_elim
    (λ e. let same : j ≡ i = eqb-true j i e in
    rw e (rw same (ap (λ (m : Amounts). of_side m.old m.new p) (get_or-set_same s i _ none h) ∙ both p)))
    (λ e. rw e (ap (λ (m : Amounts). of_side m.old m.new p) (get_or-set_other s i j _ none (eqb-false j i e)) ∙ sym (add-zero _)))
    (bool_cases (eqb j i))
  where
    both : (p : Side) → of_side ((get_or s i none).old + o) ((get_or s i none).new + n) p ≡ of_side (get_or s i none).old (get_or s i none).new p + of_side o n p
    both Side.before = refl
    both Side.after = refl

side_zeros : (s : List Amounts) (p : Side) (l : ℕ) → s ≡ replicate most_links none → l < most_links → side_at s p l ≡ 0
side_zeros s p l e h =
    ap (λ (z : List Amounts). side_at z p l) e ∙ ap (λ (m : Amounts). of_side m.old m.new p) (get_or-replicate most_links l none none h) ∙ zero p
  where
    zero : (p : Side) → of_side {A = ℕ} 0 0 p ≡ 0
    zero Side.before = refl
    zero Side.after = refl

pub across-none : (o n : ℕ) (s : List Amounts) → FlowAdded (λ l. false) o n s s
across-none o n s = record { size = refl; each = λ p l h. sym (add-zero _) }

pub across-on : (k o n : ℕ) (c e : ℕ → Bool) (s s₁ : List Amounts) → k < most_links → length s ≡ most_links → FlowAdded c o n s s₁
    → ((l y : ℕ) → cond (c l) y 0 + cond (eqb l k) y 0 ≡ cond (e l) y 0)
    → FlowAdded e o n s (set s₁ k (record { old = (get_or s₁ k none).old + o; new = (get_or s₁ k none).new + n }))
across-on k o n c e s s₁ hk size a h = record {
  size = length-set s₁ k _ ∙ a.size;
  each = λ p l hl. omega (arith, store-side s₁ k o n p l (omega (arith, size, a.size)), a.each p l hl, h l (of_side o n p));
}

side-most : (o n : ℕ) (p : Side) → o ≤ most_amount → n ≤ most_amount → of_side o n p ≤ most_amount
side-most o n Side.before ho hn = ho
side-most o n Side.after ho hn = hn

-- so no sum is larger than before by more than the largest amount
pub across-most : (o n : ℕ) (c : ℕ → Bool) (s s' : List Amounts) → FlowAdded c o n s s' → FlowRoom s → o ≤ most_amount → n ≤ most_amount
    → (p : Side) (l : ℕ) → l < most_links → side_at s' p l ≤ most_tunnels * most_amount + most_amount
across-most o n c s s' a r ho hn p l hl = omega (arith, a.each p l hl, r.most p l hl, cond-most (c l) (of_side o n p), side-most o n p ho hn)

-- ---- a flow's sums, along its chain

-- the entry is of a tunnel of the flow, or none, and what is added, with what the tunnels up to it have, is the flow's sum
pub record Left (N : Net) (f : ℕ) (entry : Option ℕ) (s : List Amounts) : Type 0 where
  pub size : length s ≡ most_links
  pub low : up_to entry ≤ N.tunnels
  pub own : (t : ℕ) → entry ≡ Some t → of_flow N f t ≡ true
  pub each : (p : Side) (l : ℕ) → l < most_links
      → side_at s p l + sum_over (up_to entry) (of_flow N f) (across N l (of_side N.old N.new p)) ≡ flow_sum N (across N l (of_side N.old N.new p)) f

module _ (N : Net) (f : ℕ) where
  pub left-start : (entry : Option ℕ) (s : List Amounts) → s ≡ replicate most_links none → LastOf (of_flow N f) N.tunnels entry → Left N f entry s
  unfolding flow_sum
  left-start entry s e a = record {
    size = ap length e ∙ length-replicate {A = Amounts} most_links none;
    low = a.low;
    own = a.own;
    each = λ p l h. omega (arith, side_zeros s p l e h, a.whole (across N l (of_side N.old N.new p)));
  }

  side-own : (p : Side) (t : ℕ) → of_side (N.old t) (N.new t) p ≡ of_side N.old N.new p t
  side-own Side.before t = refl
  side-own Side.after t = refl

  -- tunnel t added
  pub left-on : (t : ℕ) (m : Option ℕ) (s s' : List Amounts) → Left N f (Some t) s → FlowAdded (in_set (N.via t)) (N.old t) (N.new t) s s'
      → LastOf (of_flow N (N.flow t)) t m → Left N f m s'
  unfolding across crosses
  left-on t m s s' L a own =
      let e = L.own t refl in
      let last : LastOf (of_flow N f) t m = subst (λ (g : ℕ). LastOf (of_flow N g) t m) (eqb-true _ _ e) own in
      record {
        size = a.size ∙ L.size;
        low = omega (arith, last.low, L.low);
        own = last.own;
        each = λ p l h.
            omega (
              arith,
              a.each p l h,
              ap (λ (x : ℕ). cond (in_set (N.via t) l) x 0) (side-own p t),
              L.each p l h,
              sum-take t (of_flow N f) (across N l (of_side N.old N.new p)) e,
              last.whole (across N l (of_side N.old N.new p)),
            );
      }

  pub left_end : (entry : Option ℕ) (s : List Amounts) → entry ≡ None → Left N f entry s → FlowSums N f s
  left_end entry s e L = record {
    size = L.size;
    each = λ p l h. omega (arith, L.each p l h, ap (λ (m : Option ℕ). sum_over (up_to m) (of_flow N f) (across N l (of_side N.old N.new p))) e, sum-zero (of_flow N f) (across N l (of_side N.old N.new p)));
  }

  module _ (r : InRange N) where
    within : (p : Side) (t : ℕ) → t < N.tunnels → of_side N.old N.new p t ≤ most_amount
    within Side.before t h = r.old t h
    within Side.after t h = r.new t h

    flow-room : (p : Side) (l : ℕ) → flow_sum N (across N l (of_side N.old N.new p)) f ≤ most_tunnels * most_amount
    unfolding flow_sum
    flow-room p l = flow-most N r N.tunnels (of_flow N f) (of_side N.old N.new p) (within p) (le_refl _) l

    pub left-room : (entry : Option ℕ) (s : List Amounts) → Left N f entry s → FlowRoom s
    left-room entry s L = record { size = L.size; most = λ p l h. omega (arith, L.each p l h, flow-room p l) }

pub outside-start : (s : List Amounts) → s ≡ replicate most_links none → NoneOutside 0 s
outside-start s e = record { each = λ p l h _. side_zeros s p l e h }

pub outside-on : (a v o n : ℕ) (s s' : List Amounts) → NoneOutside a s → FlowAdded (in_set v) o n s s' → NoneOutside (bit_or a v) s'
outside-on a v o n s s' S b = record {
  each = λ p l h e. let k = or-outside a v l e in b.each p l h ∙ ap₂ (λ (u : ℕ) (q : Bool). u + cond q (of_side o n p) 0) (S.each p l h k.0) k.1;
}

-- ---- a flow's sums added to a table, link by link

pub sums_none : (sums : List Amounts) (s : List LinkSums) → SumsAdded (λ l. false) sums s s
sums_none sums s = record { size = refl; each = λ p l h. sym (add-zero _) }

at_one : (l k : ℕ) (x : ℕ → ℕ) → cond (eqb l k) (x k) 0 ≡ cond (eqb l k) (x l) 0
at_one l k x =
    ⊎_elim (λ e. ap (λ (j : ℕ). cond (eqb l k) (x j) 0) (sym (eqb-true l k e))) (λ e. rw e refl) (bool_cases (eqb l k))

-- what a part counts of a flow's sums on link l
abbrev of_sums : List Amounts → Part → ℕ → ℕ
of_sums sums p l = amount (side_at sums Side.before l) (side_at sums Side.after l) p

pub sums_on : (k : ℕ) (c e : ℕ → Bool) (sums : List Amounts) (s s₁ s₂ : List LinkSums) → SumsAdded c sums s s₁ → Added (λ l. eqb l k) (side_at sums Side.before k) (side_at sums Side.after k) s₁ s₂
    → ((l y : ℕ) → cond (c l) y 0 + cond (eqb l k) y 0 ≡ cond (e l) y 0) → SumsAdded e sums s s₂
sums_on k c e sums s s₁ s₂ a b h = record {
  size = b.size ∙ a.size;
  each = λ p l hl. omega (arith, a.each p l hl, b.each p l hl, at_one l k (of_sums sums p), h l (of_sums sums p l));
}

pub sums-room : (c : ℕ → Bool) (sums : List Amounts) (s s' : List LinkSums) → SumsAdded c sums s s' → FlowRoom sums → Room most_sums s → Room (most_sums + most_tunnels) s'
sums-room c sums s s' a m r = record {
  size = a.size ∙ r.size;
  most = λ p l h.
      omega (
        arith,
        a.each p l h,
        r.most p l h,
        cond-most (c l) (of_sums sums p l),
        amount-most (most_tunnels * most_amount) _ _ (m.most Side.before l h) (m.most Side.after l h) p,
      );
}

-- ---- a flow more in a table of flows

module _ (N : Net) (e : by_flow N ≡ true) (f set : ℕ) (sums : List Amounts) (F : FlowSums N f sums) (W : NoneOutside set sums) where
  -- what a part counts of the flow
  part-flow : (p : Part) (l : ℕ) → l < most_links → of_sums sums p l ≡ on_part N l p f
  part-flow p l h =
      ap₂ (λ (o n : ℕ). amount o n p) (F.each Side.before l h ∙ sym (on-flow N e l N.old f)) (F.each Side.after l h ∙ sym (on-flow N e l N.new f)) ∙ sym (part-mover N l p f)

  of_set : (p : Part) (l : ℕ) → l < most_links → cond (in_set set l) (of_sums sums p l) 0 ≡ on_part N l p f
  of_set p l h =
      let x : ℕ = of_sums sums p l in
      ⊎_elim
      (λ i. ap (λ (b : Bool). cond b x 0) i ∙ part-flow p l h)
      (λ i. ap (λ (b : Bool). cond b x 0) i ∙ sym (ap₂ (λ (o n : ℕ). amount o n p) (W.each Side.before l h i) (W.each Side.after l h i) ∙ part-nothing p) ∙ part-flow p l h)
      (bool_cases (in_set set l))

  pub with-flow : (s s' : List LinkSums) → SumsAdded (in_set set) sums s s' → WithFlow N f s s'
  with-flow s s' a = record { size = a.size; each = λ p l h. a.each p l h ∙ ap (λ (x : ℕ). sum_at s p l + x) (of_set p l h) }

pub flow-take : (N : Net) (f : ℕ) (c : ℕ → Bool) (s s' : List LinkSums) → Table N f c s → c f ≡ true → WithFlow N f s s' → Table N (f + 1) c s'
flow-take N f c s s' T k a = record {
  size = a.size ∙ T.size;
  each = λ p l h. omega (arith, a.each p l h, T.each p l h, sum-take f c (on_part N l p) k);
}

-- ---- what the chains of a network's list say: l is the list inside, s the list that a clause sees

module _ (l s : List ℕ) (same : l ≡ s) (lasts priors : List (Option ℕ)) (h : Chained (network_of l) (network_of l).tunnels lasts priors) where
  pub last-known : (f : ℕ) → f < most_flows → LastOf (of_flow (network_of s) f) (network_of s).tunnels (get_or lasts f None)
  last-known f k = rw (← same) (h.last f k)

  pub prior-known : (t : ℕ) → t < (network_sizes s).tunnels → LastOf (of_flow (network_of s) ((network_of s).flow t)) t (get_or priors t None)
  unfolding network_of
  prior-known t k = rw (← same) (h.prior t (omega (arith, ap (λ (m : List ℕ). (network_sizes m).tunnels) same)))

-- in a turn along a chain the entry's tunnel is one of the network's; the list n is the network's as it is read
module _ (l n : List ℕ) (same : n ≡ l) (f t : ℕ) (entry : Option ℕ) (is : entry ≡ Some t) (s : List Amounts) (L : Left (network_of l) f entry s) where
  pub turn-there : t < (network_sizes n).tunnels
  unfolding network_of
  turn-there = omega (arith, L.low, ap up_to is, ap (λ (m : List ℕ). (network_sizes m).tunnels) same)

  -- with its numbers added
  pub turn-on : (v o w : ℕ) (m : Option ℕ) (s' : List Amounts) → v ≡ (network_of n).via t → o ≡ (network_of n).old t → w ≡ (network_of n).new t
      → FlowAdded (in_set v) o w s s' → LastOf (of_flow (network_of l) ((network_of l).flow t)) t m → Left (network_of l) f m s'
  turn-on v o w m s' ev eo ew a last = left-on (network_of l) f t m s s' (rw is at L) (rw (← same, ← ev, ← eo, ← ew) a) last
