-- Laws of the loops over the parts of a network's list, and that a list with its parts in their ranges is whole.
use mathlib.Core.Bool.{Bool, true, false, true≢false, false≢true}
use mathlib.Core.Path.{◌≡◌, refl, sym, ap, subst, subst⁻¹, ◌∙◌}
use mathlib.Core.Logic.{⊎_elim}
use mathlib.Core.List.{List}
use Prim.Native.Nat.{ℕ, zero, suc, ◌+◌, ◌-◌, ◌^◌, ◌≤◌, ◌<◌}
use native.Mathlib.Nat.{eq-or-lt_of_le, le_of_lt}
use native.Mathlib.Decide.{dec_lt}
use native.Mathlib.Omega.{arith}
use lib.Dec.{T, ltb}
use lib.ListN.{length, get_or, take}
use borrow.Author.Tests.{lt-ltb}
use Rattle.model.specs.Limits.{most_amount}
use Rattle.lists.specs.Lists.{at, has_held, per_link, per_flow, next_in, network_sizes, link_at, flow_at, tunnel_at, network_size, held_of}
use Rattle.lists.specs.declared.Network as counts
use Rattle.lists.proofs.Positions.{link-most, second, flow-most, third, next-third, tunnel-after, each_number}
use Rattle.lists.proofs.Held.{with-held}
use Rattle.forms.specs.Form.{Field, line, Sound, Whole, allows, admits_of, field_of, network_lines, network_body, link_lines, flow_lines, tunnel_lines}
use Rattle.lists.specs.Good.{LinksIn, FlowsIn, TunnelsIn}
use Rattle.judges.specs.Ranges.{Decides, head_lines, HeadIn, NetworkHead}
use Rattle.std.specs.declared.option.Option.TheVariants.{None}
use Rattle.forms.specs.declared.form.Form.{Form}
use Rattle.forms.specs.declared.form.Key.{Key}
use Rattle.forms.specs.declared.form.Key.TheVariants as key
use Rattle.forms.specs.declared.form.Form.TheVariants.{Network}
use Rattle.forms.specs.declared.form.Range.TheVariants.{Between, Set}
use Rattle.forms.proofs.Forms.{in_between, head-there, own_body, body-link, body-flow, body-tunnel, body_end, network-head-field, network-body-field, network-head-at}
use Rattle.forms.proofs.Good.{network-ranges, last_line, set-in, in-set}
use Rattle.forms.specs.declared.form.Range.{Range}

-- ---- tests

pub decides-yes : {X : Type 0} → X → Decides true X
decides-yes x = record { yes = λ e. x; no = λ e. absurd (true≢false e) }

pub decides-no : {X : Type 0} → (X → ⊥) → Decides false X
decides-no h = record { yes = λ e. absurd (false≢true e); no = λ e. h }

pub decides-same : {X Y : Type 0} (b : Bool) → (X → Y) → (Y → X) → Decides b X → Decides b Y
decides-same b f g d = record { yes = λ e. f (d.yes e); no = λ e y. d.no e (g y) }

pub untrue : (b : Bool) → b ≡ false → T b → ⊥
untrue b e t = rw e at t

pub no_line : (f : Field) (v : ℕ) → f ≡ None → T (allows f v) → ⊥
no_line f v e t = rw e at t

pub not-allowed : (f : Field) (k : Key) (r : Range) (v : ℕ) → f ≡ line k r → admits_of r v ≡ false → T (allows f v) → ⊥
not-allowed f k r v e a t = rw (e, a) at t

-- a set, where the limit and its position are known by other names
pub set_same : (l : List ℕ) (m n i j : ℕ) → m ≡ n → i ≡ j → T (admits_of (Set m) (at l i)) → T (admits_of (Set n) (at l j))
set_same l m n i j e f t = subst (λ (k : ℕ). T (admits_of (Set k) (at l j))) e (subst (λ (k : ℕ). T (admits_of (Set m) (at l k))) f t)

-- the set of a tunnel, where its position and the sizes are
module _ (l : List ℕ) (n : counts.Network) (same : n ≡ network_sizes l) (t i : ℕ) (here : i ≡ tunnel_at (network_sizes l) t) where
  links : n.links ≡ (network_sizes l).links
  links = ap (λ (m : counts.Network). m.links) same

  place : i + 1 ≡ tunnel_at (network_sizes l) t + 1
  place = ap (λ (j : ℕ). j + 1) here

  abbrev via : ℕ
  via = at l (tunnel_at (network_sizes l) t + 1)

  pub via-at : (1 ≤ via) × (via < 2 ^ (network_sizes l).links) → T (admits_of (Set n.links) (at l (i + 1)))
  via-at v = set_same l _ _ _ _ (sym links) (sym place) (in-set (network_sizes l).links via v)

  pub at-via : T (admits_of (Set n.links) (at l (i + 1))) → (1 ≤ via) × (via < 2 ^ (network_sizes l).links)
  at-via v = set-in (network_sizes l).links via (set_same l _ _ _ _ links place v)

-- ---- what holds of the numbers passed holds with one more

pub one_more : (P : ℕ → Type 0) (n : ℕ) → ((k : ℕ) → k < n → P k) → P n → (k : ℕ) → k < n + 1 → P k
one_more P n h p k less = ⊎_elim (λ (e : k ≡ n). subst⁻¹ P e p) (h k) (eq-or-lt_of_le {n = k} {m = n} (omega arith))

module _ (form : Form) (l : List ℕ) where
  pub head-none : HeadIn form l 0
  head-none = record { each = λ i h. absurd (omega arith) }

  pub head_more : (n : ℕ) → HeadIn form l n → T (allows (get_or (head_lines form (at l 0)) n None) (at l n)) → HeadIn form l (n + 1)
  head_more n h t = record { each = one_more (λ i. T (allows (get_or (head_lines form (at l 0)) i None) (at l i))) n h.each t }

module _ (l : List ℕ) where
  pub links-none : LinksIn l 0
  links-none = record { cap = λ k h. absurd (omega arith); held = λ k h. absurd (omega arith) }

  pub links-more : (n : ℕ) → LinksIn l n → at l (link_at (network_sizes l) n) ≤ most_amount → held_of l n ≤ at l (link_at (network_sizes l) n) → LinksIn l (n + 1)
  links-more n h c x =
      record {
        cap = one_more (λ k. at l (link_at (network_sizes l) k) ≤ most_amount) n h.cap c;
        held = one_more (λ k. held_of l k ≤ at l (link_at (network_sizes l) k)) n h.held x;
      }

  pub flows-none : FlowsIn l 0
  flows-none = record { class = λ f h. absurd (omega arith); rate = λ f h. absurd (omega arith); next = λ f h. absurd (omega arith) }

  pub flows-more : (n : ℕ) → FlowsIn l n → at l (flow_at (network_sizes l) n) ≤ 2 → at l (flow_at (network_sizes l) n + 1) ≤ most_amount
      → at l (flow_at (network_sizes l) n + next_in (network_sizes l).edition) ≤ most_amount → FlowsIn l (n + 1)
  flows-more n h c r x =
      record {
        class = one_more (λ f. at l (flow_at (network_sizes l) f) ≤ 2) n h.class c;
        rate = one_more (λ f. at l (flow_at (network_sizes l) f + 1) ≤ most_amount) n h.rate r;
        next = one_more (λ f. at l (flow_at (network_sizes l) f + next_in (network_sizes l).edition) ≤ most_amount) n h.next x;
      }

  pub tunnels-none : TunnelsIn l 0
  tunnels-none = record { flow = λ t h. absurd (omega arith); via = λ t h. absurd (omega arith); old = λ t h. absurd (omega arith); new = λ t h. absurd (omega arith) }

  pub tunnels-more : (n : ℕ) → TunnelsIn l n → at l (tunnel_at (network_sizes l) n) < (network_sizes l).flows
      → (1 ≤ at l (tunnel_at (network_sizes l) n + 1)) × (at l (tunnel_at (network_sizes l) n + 1) < 2 ^ (network_sizes l).links)
      → at l (tunnel_at (network_sizes l) n + 2) ≤ most_amount → at l (tunnel_at (network_sizes l) n + 3) ≤ most_amount → TunnelsIn l (n + 1)
  tunnels-more n h f v o w =
      record {
        flow = one_more (λ t. at l (tunnel_at (network_sizes l) t) < (network_sizes l).flows) n h.flow f;
        via = one_more (λ t. (1 ≤ at l (tunnel_at (network_sizes l) t + 1)) × (at l (tunnel_at (network_sizes l) t + 1) < 2 ^ (network_sizes l).links)) n h.via v;
        old = one_more (λ t. at l (tunnel_at (network_sizes l) t + 2) ≤ most_amount) n h.old o;
        new = one_more (λ t. at l (tunnel_at (network_sizes l) t + 3) ≤ most_amount) n h.new w;
      }

-- ---- a list with its parts in their ranges is whole

pub record InRange (l : List ℕ) : Type 0 where
  pub head : HeadIn Network l (length (network_lines (at l 0)))
  pub size : length l ≡ network_size (network_sizes l)
  pub links : LinksIn l (network_sizes l).links
  pub flows : FlowsIn l (network_sizes l).flows
  pub tunnels : TunnelsIn l (network_sizes l).tunnels

module _ (l : List ℕ) (r : InRange l) where
  abbrev sizes : counts.Network
  sizes = network_sizes l

  at_first : (P : ℕ → Type 0) (i : ℕ) → P (at l i) → P (at l (i + 0))
  at_first P i p = let e : i + 0 ≡ i = omega arith in subst⁻¹ (λ (k : ℕ). P (at l k)) e p

  -- a link has its capacity, and past it only what is held of it
  link-in : (k j before : ℕ) → before ≡ at l (link_at sizes k + j - 1) → k < sizes.links → j < per_link sizes.edition
      → T (allows (get_or (link_lines sizes.edition before) j None) (at l (link_at sizes k + j)))
  link-in k zero before e h g = at_first (λ v. T (allows (line key.Cap (Between 0 most_amount)) v)) (link_at sizes k) (in_between 0 most_amount _ (omega arith) (r.links.cap k h))
  link-in k (suc zero) before e h g =
      let y : has_held sizes.edition ≡ true = second sizes.edition g in
      let i : link_at sizes k + 1 - 1 ≡ link_at sizes k = omega arith in
      rw y (in_between 0 before (at l (link_at sizes k + 1)) (omega arith) (omega (arith, e, ap (at l) i, with-held l k y, r.links.held k h)))
  link-in k (suc (suc j)) before e h g = absurd (omega (arith, link-most sizes.edition))

  -- a flow has its class and its rate, and past them only its next
  flow-in : (f j : ℕ) → f < sizes.flows → j < per_flow sizes.edition → T (allows (get_or (flow_lines sizes.edition) j None) (at l (flow_at sizes f + j)))
  flow-in f zero h k = at_first (λ v. T (allows (line key.Class (Between 0 2)) v)) (flow_at sizes f) (in_between 0 2 _ (omega arith) (r.flows.class f h))
  flow-in f (suc zero) h k = in_between 0 most_amount _ (omega arith) (r.flows.rate f h)
  flow-in f (suc (suc j)) h k =
      let e : next_in sizes.edition ≡ suc (suc j) = omega (arith, flow-most sizes.edition, next-third sizes.edition (third sizes.edition (omega arith))) in
      let last : T (allows (get_or (flow_lines sizes.edition) (next_in sizes.edition) None) (at l (flow_at sizes f + next_in sizes.edition)))
      = rw (last_line sizes.edition) (in_between 0 most_amount _ (omega arith) (r.flows.next f h)) in
      rw e at last

  tunnel-in : (t j : ℕ) → t < sizes.tunnels → j < 4 → T (allows (get_or (tunnel_lines sizes) j None) (at l (tunnel_at sizes t + j)))
  tunnel-in t zero h k = at_first (λ v. T (ltb v sizes.flows)) (tunnel_at sizes t) (rw (lt-ltb _ _ (r.tunnels.flow t h)) tt)
  tunnel-in t (suc zero) h k = in-set sizes.links _ (r.tunnels.via t h)
  tunnel-in t (suc (suc zero)) h k = in_between 0 most_amount _ (omega arith) (r.tunnels.old t h)
  tunnel-in t (suc (suc (suc zero))) h k = in_between 0 most_amount _ (omega arith) (r.tunnels.new t h)
  tunnel-in t (suc (suc (suc (suc j)))) h k = absurd (omega arith)

  body-in : (i : ℕ) → link_at sizes 0 ≤ i → i < network_size sizes → T (allows (network_body sizes (at l (i - 1)) i) (at l i))
  body-in =
      each_number sizes (λ i. T (allows (network_body sizes (at l (i - 1)) i) (at l i)))
      (λ k j h g. rw (body-link sizes _ k j h g) (link-in k j _ refl h g))
      (λ f j h k. rw (body-flow sizes _ f j h k) (flow-in f j h k))
      (λ t j h k. rw (body-tunnel sizes _ t j h k) (tunnel-in t j h k))

  in-sound : (i : ℕ) → i < length l → Dec (i < length (network_lines (at l 0))) → T (allows (field_of Network (take i l)) (at l i))
  in-sound i h (yes k) = rw (network-head-field l i (le_of_lt h) k) (r.head.each i k)
  in-sound i h (no k) = rw (network-body-field l i (le_of_lt h) (omega arith)) (body-in i (omega (arith, head-there l)) (omega (arith, r.size)))

  ends : field_of Network l ≡ None
  ends = own_body l (omega (arith, r.size, head-there l, tunnel-after sizes sizes.tunnels)) ∙ body_end sizes _ (length l) (omega (arith, r.size))

  pub in-range-whole : Whole Network l
  unfolding Sound
  in-range-whole = record { sound = λ i h. in-sound i h (dec_lt i (length (network_lines (at l 0)))); ends = ends }

-- and the parts of a whole list are in their ranges
pub whole_in_range : (l : List ℕ) → Whole Network l → InRange l
whole_in_range l w =
    let r = network-ranges l w in
    let n = network_sizes l in
    record {
      head = record { each = λ i h. network-head-at l w.sound i (omega (arith, r.sized.size, head-there l, tunnel-after n n.tunnels)) h };
      size = r.sized.size;
      links = r.links;
      flows = r.flows;
      tunnels = r.tunnels;
    }

-- its head among them
pub whole-head : (l : List ℕ) → Whole Network l → NetworkHead l
whole-head l w =
    let r = whole_in_range l w in
    record { long = omega (arith, r.size, head-there l, tunnel-after (network_sizes l) (network_sizes l).tunnels); head = r.head }

-- the lines of a head by whether there is a unit
pub same_lines : (e f : ℕ) → has_held e ≡ has_held f → network_lines e ≡ network_lines f
same_lines e f h = rw h refl
