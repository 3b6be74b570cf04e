-- The laws of the tables of sums.
use Prim.Native.Nat.{ℕ, ◌+◌, ◌*◌, ◌^◌, ◌≤◌, ◌<◌}
use mathlib.Core.Path.{◌≡◌, refl, sym, ap, ap₂, ◌∙◌}
use mathlib.Core.Logic.{⊎_elim}
use mathlib.Core.Bool.{Bool, true, false, cond, not}
use mathlib.Core.List.{List}
use native.Mathlib.Omega.{arith}
use native.Mathlib.Decide.{dec_lt}
use native.Mathlib.Nat.{add-zero, le_refl, mul-le-mul_right}
use lib.Dec.{eqb, ltb}
use lib.ListN.{length, get_or, set, replicate, length-set, length-replicate, get_or-replicate}
use lib.Seq.{get_or-set_same, get_or-set_other}
use borrow.Author.Tests.{eq-eqb, ne_eqb, eqb-true, eqb-false, lt-ltb, le-ltb}
use Rattle.model.specs.Limits.{most_links, most_flows, most_tunnels, most_amount}
use Rattle.model.specs.Sum.{sum_over}
use Rattle.model.specs.Net.{Net}
use Rattle.model.specs.Scan.{Bound}
use Rattle.model.specs.Rule.{crosses, across, flow_sum, by_flow, movers, on_link, counts, load}
use Rattle.model.specs.ThreeSums.{old_load, new_load, peak_load}
use Rattle.model.proofs.Sums.{sum-zero, sum-take, sum-skip, sum_bound, sum_both}
use Rattle.model.proofs.Searches.{bool_cases, cond-most}
use Rattle.model.proofs.Movers.{movers-tunnels, on-tunnel, movers-flows, on-flow}
use Rattle.model.proofs.Gathered.{larger-by-tunnel}
use Rattle.model.specs.Sets.{in_set}
use Rattle.lists.specs.Lists.{network_of}
use Rattle.lists.specs.Good.{GoodNetwork}
use Rattle.link_sums.specs.declared.table.LinkSums.{LinkSums}
use Rattle.link_sums.specs.declared.table.Tables.{Tables}
use Rattle.link_sums.specs.Tables.{Part, part, nothing, of_mover, plus, sums_of, sum_at, amount, most_sums, Few, Room, Added, on_part, Table, unprotected, Loads, Split, Joined}

-- ---- one link

part-plus : (s m : LinkSums) (p : Part) → part (plus s m) p ≡ part s p + part m p
part-plus s m Part.old = refl
part-plus s m Part.new = refl
part-plus s m Part.peak = refl

pub part-nothing : (p : Part) → part nothing p ≡ 0
part-nothing Part.old = refl
part-nothing Part.new = refl
part-nothing Part.peak = refl

-- a store that adds the sums x to those of link i
pub store_at : (s : List LinkSums) (i : ℕ) (x : LinkSums) (p : Part) (j : ℕ) → i < length s
    → sum_at (set s i (plus (get_or s i nothing) x)) p j ≡ sum_at s p j + cond (eqb j i) (part x p) 0
store_at s i x p j h =
    ⊎_elim
    (λ e. let same : j ≡ i = eqb-true j i e in
    rw e (rw same (ap (λ (m : LinkSums). part m p) (get_or-set_same s i (plus (get_or s i nothing) x) nothing h) ∙ part-plus (get_or s i nothing) x p)))
    (λ e. rw e (ap (λ (m : LinkSums). part m p) (get_or-set_other s i j (plus (get_or s i nothing) x) nothing (eqb-false j i e)) ∙ sym (add-zero _)))
    (bool_cases (eqb j i))

pub link-added : (s : List LinkSums) (link o n : ℕ) → link < length s → Added (λ l. eqb l link) o n s (set s link (plus (get_or s link nothing) (of_mover o n)))
link-added s link o n h = record { size = length-set s link _; each = λ p l _. store_at s link (of_mover o n) p l h }

sums-same : (s m : LinkSums) → s.old ≡ m.old → s.new ≡ m.new → s.peak ≡ m.peak → s ≡ m
sums-same s m o n p =
    ap₂ (λ (x y : ℕ). record { old = x; new = y; peak = s.peak }) o n ∙ ap (λ (x : ℕ). record { old = m.old; new = m.new; peak = x }) p

-- ---- several links

-- amounts that are added on some links and then on others
pub added-both : (c d e : ℕ → Bool) (o n : ℕ) (s s₁ s₂ : List LinkSums) → Added c o n s s₁ → Added d o n s₁ s₂
    → ((l x : ℕ) → l < most_links → cond (c l) x 0 + cond (d l) x 0 ≡ cond (e l) x 0) → Added e o n s s₂
added-both c d e o n s s₁ s₂ a b h = record {
  size = b.size ∙ a.size;
  each = λ p l k. omega (arith, a.each p l k, b.each p l k, h l (amount o n p) k);
}

pub added_none : (o n : ℕ) (s : List LinkSums) → Added (λ l. false) o n s s
added_none o n s = record { size = refl; each = λ p l k. sym (add-zero _) }

-- a mover's amounts make the sums those of its amounts more
pub amount-most : (B o n : ℕ) → o ≤ B → n ≤ B → (p : Part) → amount o n p ≤ B
amount-most B o n ho hn Part.old = ho
amount-most B o n ho hn Part.new = hn
amount-most B o n ho hn Part.peak = omega arith

pub added-room : (c : ℕ → Bool) (o n : ℕ) (s s' : List LinkSums) → Added c o n s s' → Room most_sums s → o ≤ most_amount → n ≤ most_amount → Room (most_sums + most_tunnels) s'
added-room c o n s s' a r ho hn = record {
  size = a.size ∙ r.size;
  most = λ p l h. omega (arith, a.each p l h, r.most p l h, cond-most (c l) (amount o n p), amount-most most_amount o n ho hn p);
}

-- ---- two tables joined, link by link

pub record Joining (i : ℕ) (s more s' : List LinkSums) : Type 0 where
  pub size : length s' ≡ length s
  pub each : (p : Part) (l : ℕ) → sum_at s' p l ≡ sum_at s p l + cond (ltb l i) (sum_at more p l) 0

pub join-none : (s more : List LinkSums) → Joining 0 s more s
join-none s more = record {
  size = refl;
  each = λ p l. sym (ap (λ (b : Bool). sum_at s p l + cond b (sum_at more p l) 0) (le-ltb l 0 (omega arith)) ∙ add-zero _);
}

-- what stands below i, and at i
pub up_to : (i l x y : ℕ) → (l ≡ i → x ≡ y) → cond (ltb l i) x 0 + cond (eqb l i) y 0 ≡ cond (ltb l (i + 1)) x 0
up_to i l x y h =
    elim (dec_lt l i) [
      | yes k ↦ rw (lt-ltb l i k, ne_eqb l i (λ q. omega arith), lt-ltb l (i + 1) (omega arith)) (add-zero _)
      | no k ↦ elim (dec_lt i l) [
        | yes j ↦ rw (le-ltb l i (omega arith), ne_eqb l i (λ q. omega arith), le-ltb l (i + 1) (omega arith)) refl
        | no j ↦ (let e : l ≡ i = omega arith in rw (le-ltb l i (omega arith), eq-eqb l i e, lt-ltb l (i + 1) (omega arith)) (omega (arith, h e)))
      ]
    ]

pub join-on : (i : ℕ) (s more s' : List LinkSums) → i < length s → Joining i s more s' → Joining (i + 1) s more (set s' i (plus (get_or s' i nothing) (get_or more i nothing)))
join-on i s more s' h j = record {
  size = length-set s' i _ ∙ j.size;
  each = λ p k.
      omega (
        arith,
        store_at s' i (get_or more i nothing) p k (omega (arith, j.size)),
        j.each p k,
        up_to i k (sum_at more p k) (sum_at more p i) (ap (λ (l : ℕ). sum_at more p l)),
      );
}

pub join-all : (s more s' : List LinkSums) → length s ≡ most_links → Joining most_links s more s' → Joined s more s'
join-all s more s' e j = record {
  size = j.size ∙ e;
  each = λ p l h. j.each p l ∙ ap (λ (b : Bool). sum_at s p l + cond b (sum_at more p l) 0) (lt-ltb l most_links h);
}

-- the sums of a link that is passed later have not changed
join-ahead : (i : ℕ) (s more s' : List LinkSums) → Joining i s more s' → (p : Part) → sum_at s' p i ≡ sum_at s p i
join-ahead i s more s' j p = j.each p i ∙ ap (λ (b : Bool). sum_at s p i + cond b (sum_at more p i) 0) (le-ltb i i (omega arith)) ∙ add-zero _

-- both fit together
pub join-room : (i : ℕ) (s more s' : List LinkSums) → Joining i s more s' → Room most_sums s → Room most_sums more → i < most_links → (p : Part)
    → sum_at s' p i + sum_at more p i < 2 ^ 64
join-room i s more s' j r q h p = omega (arith, join-ahead i s more s' j p, r.most p i h, q.most p i h)

-- ---- a table of movers

-- what a part counts of a mover
pub part-mover : (N : Net) (l : ℕ) (p : Part) (m : ℕ) → on_part N l p m ≡ amount (on_link N l N.old m) (on_link N l N.new m) p
unfolding on_part
part-mover N l Part.old m = refl
part-mover N l Part.new m = refl
part-mover N l Part.peak m = refl

-- of a tunnel that moves for itself, its amount on the links of its set
part-tunnel : (N : Net) → by_flow N ≡ false → (l : ℕ) (p : Part) (t : ℕ) → on_part N l p t ≡ cond (in_set (N.via t) l) (amount (N.old t) (N.new t) p) 0
unfolding on_part across crosses
part-tunnel N e l Part.old t = on-tunnel N e l N.old t
part-tunnel N e l Part.new t = on-tunnel N e l N.new t
part-tunnel N e l Part.peak t = larger-by-tunnel N e l N.old N.new t

pub sum_zeros : (s : List LinkSums) (p : Part) (l : ℕ) → s ≡ replicate most_links nothing → l < most_links → sum_at s p l ≡ 0
sum_zeros s p l e h =
    ap (λ (z : List LinkSums). sum_at z p l) e ∙ ap (λ (m : LinkSums). part m p) (get_or-replicate most_links l nothing nothing h) ∙ part-nothing p

table-zero : (N : Net) (c : ℕ → Bool) (s : List LinkSums) → s ≡ replicate most_links nothing → Table N 0 c s
table-zero N c s e = record {
  size = ap length e ∙ length-replicate {A = LinkSums} most_links nothing;
  each = λ p l h. sum_zeros s p l e h ∙ sym (sum-zero c (on_part N l p));
}

pub split-zero : (N : Net) (t : Tables) → t.protected ≡ replicate most_links nothing → t.all ≡ replicate most_links nothing → Split N 0 t
split-zero N t p o = record { protected = table-zero N _ t.protected p; others = table-zero N _ t.all o }

pub table-take : (N : Net) → by_flow N ≡ false → (t : ℕ) (c : ℕ → Bool) (s s' : List LinkSums) → Table N t c s → c t ≡ true → Added (in_set (N.via t)) (N.old t) (N.new t) s s'
    → Table N (t + 1) c s'
table-take N u t c s s' T e a = record {
  size = a.size ∙ T.size;
  each = λ p l h. omega (arith, a.each p l h, T.each p l h, part-tunnel N u l p t, sum-take t c (on_part N l p) e);
}

pub table-skip : (N : Net) (m : ℕ) (c : ℕ → Bool) (s : List LinkSums) → Table N m c s → c m ≡ false → Table N (m + 1) c s
table-skip N m c s T e = record { size = T.size; each = λ p l h. T.each p l h ∙ sym (sum-skip m c (on_part N l p) e) }

-- a network's counts, sets and amounts are in their ranges
pub record InRange (N : Net) : Type 0 where
  pub flows : N.flows ≤ most_flows
  pub tunnels : N.tunnels ≤ most_tunnels
  pub via : (t : ℕ) → t < N.tunnels → N.via t < 2 ^ N.links
  pub old : (t : ℕ) → t < N.tunnels → N.old t ≤ most_amount
  pub new : (t : ℕ) → t < N.tunnels → N.new t ≤ most_amount

-- so no mover has more on a link than all tunnels together
module _ (N : Net) (r : InRange N) where
  pub movers-most : movers N ≤ most_tunnels
  movers-most =
      ⊎_elim (λ e. omega (arith, movers-flows N e, r.flows)) (λ e. omega (arith, movers-tunnels N e, r.tunnels)) (bool_cases (by_flow N))

  pub flow-most : (n : ℕ) (c : ℕ → Bool) (x : ℕ → ℕ) → ((t : ℕ) → t < N.tunnels → x t ≤ most_amount) → n ≤ N.tunnels → (l : ℕ)
      → sum_over n c (across N l x) ≤ most_tunnels * most_amount
  unfolding across
  flow-most n c x h k l =
      omega (
        arith,
        mul-le-mul_right most_amount k,
        mul-le-mul_right most_amount r.tunnels,
        sum_bound n c (across N l x) most_amount (λ t j. omega (arith, cond-most (crosses N l t) (x t), h t (omega arith))),
      )

  on-most : (x : ℕ → ℕ) → ((t : ℕ) → t < N.tunnels → x t ≤ most_amount) → (l m : ℕ) → m < movers N → on_link N l x m ≤ most_tunnels * most_amount
  unfolding across flow_sum
  on-most x h l m k =
      ⊎_elim
      (λ e. omega (arith, on-flow N e l x m, flow-most N.tunnels (λ t. eqb (N.flow t) m) x h (le_refl _) l))
      (λ e. omega (arith, on-tunnel N e l x m, cond-most (crosses N l m) (x m), h m (omega (arith, movers-tunnels N e))))
      (bool_cases (by_flow N))

  -- and all that is computed from the sums of some movers fits 64 bits
  pub table-room : (n : ℕ) (c : ℕ → Bool) (s : List LinkSums) → Table N n c s → n ≤ movers N → Room most_sums s
  table-room n c s T h = record {
    size = T.size;
    most = λ p l k.
        omega (
          arith,
          T.each p l k,
          movers-most,
          mul-le-mul_right (most_tunnels * most_amount) h,
          mul-le-mul_right (most_tunnels * most_amount) movers-most,
          sum_bound n c (on_part N l p) (most_tunnels * most_amount) (λ m g.
              let low : m < movers N = omega arith in
              omega (arith, part-mover N l p m, amount-most (most_tunnels * most_amount) _ _ (on-most N.old r.old l m low) (on-most N.new r.new l m low) p)),
        );
  }

-- the sums of all classes are those of the protected ones and of the others together
either-class : (b : Bool) (u : ℕ) → cond b u 0 + cond (not b) u 0 ≡ u
either-class true u = add-zero u
either-class false u = omega arith

class-sum : (N : Net) (n : ℕ) (x : ℕ → ℕ) → sum_over n (counts N Bound.protected) x + sum_over n (unprotected N) x ≡ sum_over n (counts N Bound.total) x
unfolding counts
class-sum N n x = sum_both n (counts N Bound.protected) (unprotected N) (counts N Bound.total) x (λ t u. either-class (counts N Bound.protected t) u)

pub tables-join : (N : Net) (s more s' : List LinkSums) → Loads N Bound.protected more → Table N (movers N) (unprotected N) s → Joined s more s' → Loads N Bound.total s'
tables-join N s more s' P T j = record {
  size = j.size;
  each = λ p l h. omega (arith, j.each p l h, P.each p l h, T.each p l h, class-sum N (movers N) (on_part N l p));
}

-- ---- what a finished table has

pub loads-at : (N : Net) (b : Bound) (s : List LinkSums) (l : ℕ) → Loads N b s → l < most_links → get_or s l nothing ≡ sums_of N b l
unfolding old_load new_load peak_load load on_part
loads-at N b s l T h = let k = T.each in
    sums-same (get_or s l nothing) _ (k Part.old l h) (k Part.new l h) (k Part.peak l h)

-- ---- a network's list

pub good-range : (l : List ℕ) → GoodNetwork l → InRange (network_of l)
unfolding network_of
good-range l g =
    let t = g.ranges.tunnels in
    record { flows = g.ranges.sized.counts.flows; tunnels = g.ranges.sized.counts.tunnels; via = λ k h. (t.via k h).1; old = t.old; new = t.new }

-- ---- what the tables of a network's list say: l is the list inside, s the list that a clause sees

module _ (l s : List ℕ) (same : l ≡ s) (g : GoodNetwork l) (k : ℕ) (h : k < most_links) (b : Bound) (t : List LinkSums) (T : Loads (network_of l) b t) where
  pub sums-known : get_or t k nothing ≡ sums_of (network_of s) b k
  sums-known = loads-at (network_of l) b t k T h ∙ ap (λ (m : List ℕ). sums_of (network_of m) b k) same

  pub sums-few : Few (get_or t k nothing)
  sums-few p = (table-room (network_of l) (good-range l g) _ _ t T (le_refl _)).most p k h

-- some of a network's tunnels, or of its flows, leave room for a mover more
module _ (l : List ℕ) (g : GoodNetwork l) (n : ℕ) (c : ℕ → Bool) (s : List LinkSums) where
  pub tunnels-room : by_flow (network_of l) ≡ false → Table (network_of l) n c s → n ≤ (network_of l).tunnels → Room most_sums s
  tunnels-room u T h = table-room (network_of l) (good-range l g) n c s T (omega (arith, h, movers-tunnels (network_of l) u))

  pub flows-room : by_flow (network_of l) ≡ true → Table (network_of l) n c s → n ≤ (network_of l).flows → Room most_sums s
  flows-room u T h = table-room (network_of l) (good-range l g) n c s T (omega (arith, h, movers-flows (network_of l) u))
