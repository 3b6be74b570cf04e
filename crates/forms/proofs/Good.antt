-- What is known of a list that is judged good, and that a plan's list of which this is known is judged good.
use mathlib.Core.Path.{◌≡◌, refl, sym, ◌∙◌}
use mathlib.Core.Bool.{Bool, true, false, cond, ◌&&◌, ◌||◌, not}
use mathlib.Core.List.{List, [], ◌∷◌}
use mathlib.Core.Logic.{◌⊎◌, inl, inr, ⊎_elim}
use mathlib.Core.Option.{Option, none, some}
use Prim.Native.Nat.{ℕ, zero, suc, ◌+◌, ◌*◌, ◌-◌, ◌^◌, ◌≤◌, ◌<◌}
use native.Mathlib.Nat.{le_of_lt}
use native.Mathlib.Decide.{dec_lt}
use native.Mathlib.Omega.{arith}
use lib.Dec.{T, eqb, leb, ltb, ltb→lt, eqb-suc-zero}
use lib.ListN.{length, get_or, take}
use borrow.Author.Tests.{lt-ltb, le-ltb, ne_eqb}
use Rattle.model.specs.Limits.{most_tunnels, most_steps, most_amount, newest_edition, least_share, most_share}
use Rattle.model.specs.Outcome.{good, unless, Place}
use Rattle.model.specs.declared.Cause.TheVariants as causes
use Rattle.model.specs.Rule as rule
use Rattle.model.specs.Claim.{Valid}
use Rattle.lists.specs.Lists.{at, has_next, has_held, per_link, per_flow, next_in, network_sizes, link_at, flow_at, tunnel_at, network_size, held_of, network_of, plan_sizes, plan_size}
use Rattle.lists.specs.Good.{NetworkRanges, GoodNetwork, GoodPlan}
use Rattle.lists.specs.declared.Network as counts
use Rattle.lists.proofs.Positions.{two-a-link, link-some, flow-some, next_last, link-after, flow-after, tunnel-after, each_number, link-in, flow-in, tunnel-in}
use Rattle.lists.proofs.Held.{with-held, without-held}
use Rattle.forms.specs.Form.{Field, line, plan_body, Sound, Whole, allows, field_of, network_lines, link_lines, flow_lines, tunnel_lines, plan_lines, network_body}
use Rattle.forms.specs.Read.{add_up}
use Rattle.forms.specs.declared.form.Form.TheVariants.{Network, Plan}
use Rattle.forms.specs.declared.form.Range.TheVariants.{Between}
use Rattle.model.proofs.Searches.{both, bool_cases}
use Rattle.forms.proofs.Forms.{between, in_between, InHead, own-head, own_body, head-there, link-lines, flow-lines, network-head-at, network-body-at, plan-head-at, plan-body-at, limited, body-link, body-flow, body-tunnel, body_end, plan-head-field, plan-body-field}
use Rattle.forms.proofs.Walks.{judged-good, good-judged}
use Rattle.std.specs.declared.option.Option.TheVariants.{None, Some}
use Rattle.forms.specs.declared.form.Key.{Key}
use Rattle.forms.specs.declared.form.Key.TheVariants as key
use Rattle.forms.specs.Named.{judge_network, judge_plan}

-- ---- no field of a group is the end

abbrev IsLine : Field → Type 0
IsLine (Some x) = Unit {0}
IsLine None = ⊥

abbrev AllLines : List Field → Type 0
AllLines [] = Unit {0}
AllLines (f ∷ fs) = IsLine f × AllLines fs

line-no-end : (f : Field) → IsLine f → f ≡ None → ⊥
line-no-end (Some x) p e = let z : ◌≡◌ {A = ℕ} 0 1 = cc in omega arith
line-no-end None p e = p

pub lines-no-end : (fs : List Field) (n : ℕ) → AllLines fs → n < length fs → get_or fs n None ≡ None → ⊥
lines-no-end [] n p h e = omega arith
lines-no-end (f ∷ fs) zero p h e = line-no-end f p.0 e
lines-no-end (f ∷ fs) (suc n) p h e = lines-no-end fs n p.1 (omega arith) e

-- ---- what a range allows

pub set-in : (n v : ℕ) → T (not (eqb v 0) && ltb v (2 ^ n)) → (1 ≤ v) × (v < 2 ^ n)
set-in n zero t = absurd t
set-in n (suc v) t = (omega arith, ltb→lt (suc v) (2 ^ n) (both (not (eqb (suc v) 0)) (ltb (suc v) (2 ^ n)) t).1)

pub in-set : (n v : ℕ) → (1 ≤ v) × (v < 2 ^ n) → T (not (eqb v 0) && ltb v (2 ^ n))
in-set n v p = rw (ne_eqb v 0 (λ e. omega (arith, p.0)), lt-ltb v (2 ^ n) p.1) tt

zero-or-in : (low high v : ℕ) → T (eqb v 0 || (leb low v && leb v high)) → (v ≡ 0) ⊎ ((low ≤ v) × (v ≤ high))
zero-or-in low high zero t = inl refl
zero-or-in low high (suc v) t = inr (between low high (suc v) (rw (eqb-suc-zero v) at t))

-- ---- the network

all_head : (edition : ℕ) → AllLines (network_lines edition)
all_head edition = (tt, (tt, (tt, ⊎_elim (λ e. rw e (tt, (tt, (tt, (tt, tt))))) (λ e. rw e (tt, (tt, (tt, tt)))) (bool_cases (has_held edition)))))

all-link : (edition before : ℕ) → AllLines (link_lines edition before)
all-link edition before = (tt, ⊎_elim (λ e. rw e (tt, tt)) (λ e. rw e tt) (bool_cases (has_held edition)))

all-flow : (edition : ℕ) → AllLines (flow_lines edition)
all-flow edition = (tt, (tt, ⊎_elim (λ e. rw e (tt, tt)) (λ e. rw e tt) (bool_cases (has_next edition))))

-- the last of a flow's lines is that of an amount, whether or not there is a `next`
pub last_line : (edition : ℕ) → allows (get_or (flow_lines edition) (next_in edition) None) ≡ allows (line key.Rate (Between 0 most_amount))
unfolding next_in per_flow
last_line edition = ⊎_elim (λ e. rw e refl) (λ e. rw e refl) (bool_cases (has_next edition))

module _ (n : counts.Network) (before : ℕ) where
  -- where the form has an end, it is past the last number
  body-ends : (i : ℕ) → link_at n 0 ≤ i → network_body n before i ≡ None → network_size n ≤ i
  body-ends i h e = go (dec_lt i (network_size n))
    where
      go : Dec (i < network_size n) → network_size n ≤ i
      go (yes k) =
          absurd (each_number n (λ m. network_body n before m ≡ None → ⊥)
          (λ l j k g x. lines-no-end (link_lines n.edition before) j (all-link n.edition before) (omega (arith, link-lines n.edition before)) (sym (body-link n before l j k g) ∙ x))
          (λ f j k g x. lines-no-end (flow_lines n.edition) j (all-flow n.edition) (omega (arith, flow-lines n.edition)) (sym (body-flow n before f j k g) ∙ x))
          (λ t j k g x. lines-no-end (tunnel_lines n) j (tt, (tt, (tt, (tt, tt)))) g (sym (body-tunnel n before t j k g) ∙ x)) i h k e)
      go (no k) = omega arith

module _ (l : List ℕ) (w : Whole Network l) where
  abbrev sizes : counts.Network
  sizes = network_sizes l

  -- the number before position i
  abbrev before : ℕ → ℕ
  before i = at l (i - 1)

  network-ends : Dec (length l < length (network_lines (at l 0))) → (length (network_lines (at l 0)) ≤ length l) × (network_body sizes (before (length l)) (length l) ≡ None)
  network-ends (yes h) = absurd (lines-no-end (network_lines (at l 0)) (length l) (all_head (at l 0)) h (sym (own-head l h) ∙ w.ends))
  network-ends (no h) = let long : length (network_lines (at l 0)) ≤ length l = omega arith in (long, sym (own_body l long) ∙ w.ends)

  network-long : length (network_lines (at l 0)) ≤ length l
  network-long = (network-ends (dec_lt _ _)).0

  head-line : InHead l
  head-line i h = network-head-at l w.sound i (omega (arith, network-long)) h

  pub network-size : length l ≡ network_size sizes
  network-size = go (dec_lt (network_size sizes) (length l))
    where
      go : Dec (network_size sizes < length l) → length l ≡ network_size sizes
      go (yes h) =
          let e : network_body sizes (before (network_size sizes)) (network_size sizes) ≡ None = body_end sizes (before (network_size sizes)) (network_size sizes) (omega arith) in
          absurd (rw e at (network-body-at l w.sound (network_size sizes) h (omega (arith, head-there l, tunnel-after sizes sizes.tunnels))))
      go (no h) = omega (arith, body-ends sizes (before (length l)) (length l) (omega (arith, head-there l, network-long)) (network-ends (dec_lt _ _)).1)

  body-line : (i : ℕ) → link_at sizes 0 ≤ i → i < length l → T (allows (network_body sizes (before i) i) (at l i))
  body-line i h k = network-body-at l w.sound i k (omega (arith, head-there l))

  link-line : (k j : ℕ) → k < sizes.links → j < per_link sizes.edition
      → T (allows (get_or (link_lines sizes.edition (before (link_at sizes k + j))) j None) (at l (link_at sizes k + j)))
  link-line k j h g = rw (body-link sizes _ k j h g) at (body-line (link_at sizes k + j) (omega (arith, link-after sizes k)) (link-in l network-size k j h g))

  cap-line : (k : ℕ) → k < sizes.links → at l (link_at sizes k) ≤ most_amount
  cap-line k h =
      let e : link_at sizes k + 0 ≡ link_at sizes k = omega arith in
      (between 0 most_amount _ (rw e at (link-line k 0 h (link-some sizes.edition)))).1

  held-line : (k : ℕ) → k < sizes.links → held_of l k ≤ at l (link_at sizes k)
  held-line k h = ⊎_elim with without (bool_cases (has_held sizes.edition))
    where
      with : has_held sizes.edition ≡ true → held_of l k ≤ at l (link_at sizes k)
      with e =
          let i : link_at sizes k + 1 - 1 ≡ link_at sizes k = omega arith in
          rw (with-held l k e) (between 0 (at l (link_at sizes k)) _ (rw (e, i) at (link-line k 1 h (omega (arith, two-a-link sizes.edition e))))).1

      without : has_held sizes.edition ≡ false → held_of l k ≤ at l (link_at sizes k)
      without e = omega (arith, without-held l k e)

  flow-line : (f j : ℕ) → f < sizes.flows → j < per_flow sizes.edition → T (allows (get_or (flow_lines sizes.edition) j None) (at l (flow_at sizes f + j)))
  flow-line f j h k = rw (body-flow sizes _ f j h k) at (body-line (flow_at sizes f + j) (omega (arith, flow-after sizes f)) (flow-in l network-size f j h k))

  next-line : (f : ℕ) → f < sizes.flows → at l (flow_at sizes f + next_in sizes.edition) ≤ most_amount
  next-line f h = (between 0 most_amount _ (rw (last_line sizes.edition) at (flow-line f (next_in sizes.edition) h (next_last sizes.edition)))).1

  tunnel-line : (t j : ℕ) → t < sizes.tunnels → j < length (tunnel_lines sizes) → T (allows (get_or (tunnel_lines sizes) j None) (at l (tunnel_at sizes t + j)))
  tunnel-line t j h k =
      rw (body-tunnel sizes _ t j h k) at (body-line (tunnel_at sizes t + j) (omega (arith, tunnel-after sizes t)) (omega (arith, tunnel-in l network-size t h)))

  pub network-ranges : NetworkRanges l
  network-ranges =
      record {
        edition = between 1 newest_edition (at l 0) (head-line 0 (omega arith));
        scratch = between least_share most_share (at l 1) (head-line 1 (omega arith));
        overrun = zero-or-in least_share most_share (at l 2) (head-line 2 (omega arith));
        sized = record { counts = (limited l head-line).1; size = network-size };
        some = (limited l head-line).0;
        links = record { cap = cap-line; held = held-line };
        flows = record {
          class = λ f h. let e : flow_at sizes f + 0 ≡ flow_at sizes f = omega arith in (between 0 2 _ (rw e at (flow-line f 0 h (omega (arith, flow-some sizes.edition))))).1;
          rate = λ f h. (between 0 most_amount _ (flow-line f 1 h (omega (arith, flow-some sizes.edition)))).1;
          next = next-line;
        };
        tunnels = record {
          flow = λ t h. let e : tunnel_at sizes t + 0 ≡ tunnel_at sizes t = omega arith in ltb→lt _ _ (rw e at (tunnel-line t 0 h (omega arith)));
          via = λ t h. set-in sizes.links _ (tunnel-line t 1 h (omega arith));
          old = λ t h. (between 0 most_amount _ (tunnel-line t 2 h (omega arith))).1;
          new = λ t h. (between 0 most_amount _ (tunnel-line t 3 h (omega arith))).1;
        };
      }

sums-good : (l g : List ℕ) (o : Option Place) → unless causes.MissedRate o (good l) ≡ good g → o ≡ none
sums-good l g none e = refl
sums-good l g (some p) e = let z : ◌≡◌ {A = ℕ} 0 1 = cc in absurd (omega arith)

-- a list that is judged good as a network is what is got, and is good
pub good-network : (l g : List ℕ) → judge_network l ≡ good g → (g ≡ l) × GoodNetwork l
unfolding add_up network_of
good-network l g e =
    let j = judged-good Network l g e in
    let r = network-ranges l j.whole in (
      j.same,
      record { ranges = r; sums = sums-good l l (rule.missed_rate (network_of l)) j.sums },
    )

-- and its figures are valid
pub good-valid : (l : List ℕ) → GoodNetwork l → Valid (network_of l)
unfolding network_of
good-valid l g = record { scratch = g.ranges.scratch; overrun = g.ranges.overrun; sums = g.sums }

-- ---- the plan

cond-end : (b : Bool) (k : Key) (v : ℕ) → cond b (line k (Between 0 v)) None ≡ None → b ≡ false
cond-end true k v e = let z : ◌≡◌ {A = ℕ} 0 1 = cc in absurd (omega arith)
cond-end false k v e = refl

module _ (l : List ℕ) (w : Whole Plan l) where
  plan-long : 4 ≤ length l
  unfolding field_of
  plan-long = go (dec_lt (length l) 4)
    where
      go : Dec (length l < 4) → 4 ≤ length l
      go (yes h) = absurd (lines-no-end plan_lines (length l) (tt, (tt, (tt, (tt, tt)))) h (rw (lt-ltb (length l) 4 h) at w.ends))
      go (no h) = omega arith

  plan-body-ends : plan_body (plan_sizes l) (length l) ≡ None
  unfolding field_of
  plan-body-ends = rw (le-ltb (length l) 4 plan-long) at w.ends

  body-in : (i : ℕ) → 4 ≤ i → i < plan_size (plan_sizes l) → i < length l → at l i ≤ most_amount * at l 1
  body-in i h k less = (between 0 (most_amount * at l 1) (at l i) (rw (lt-ltb i (plan_size (plan_sizes l)) k) at (plan-body-at l w.sound i less h))).1

  pub plan-size : length l ≡ plan_size (plan_sizes l)
  plan-size = go (dec_lt (length l) (plan_size (plan_sizes l))) (dec_lt (plan_size (plan_sizes l)) (length l))
    where
      go : Dec (length l < plan_size (plan_sizes l)) → Dec (plan_size (plan_sizes l) < length l) → length l ≡ plan_size (plan_sizes l)
      go (yes h) d =
          let z : ◌≡◌ {A = Bool} true false =
          sym (lt-ltb (length l) (plan_size (plan_sizes l)) h) ∙ cond-end (ltb (length l) (plan_size (plan_sizes l))) key.At (most_amount * at l 1) plan-body-ends in
          let z' : ◌≡◌ {A = ℕ} 0 1 = cc in absurd (omega arith)
      go (no h) (yes k) =
          let same : plan_size (plan_sizes l) ≤ plan_size (plan_sizes l) = omega arith in
          absurd (rw (le-ltb (plan_size (plan_sizes l)) (plan_size (plan_sizes l)) same) at (plan-body-at l w.sound (plan_size (plan_sizes l)) k (omega arith)))
      go (no h) (no k) = omega arith

  plan-head-line : (i : ℕ) → i < 4 → T (allows (get_or plan_lines i None) (at l i))
  plan-head-line i h = plan-head-at l w.sound i (omega (arith, plan-long)) h

  pub plan-ranges : GoodPlan l
  plan-ranges =
      record {
        size = plan-size;
        edition = let p = between 1 1 (at l 0) (plan-head-line 0 (omega arith)) in omega arith;
        parts = between 1 most_steps (at l 1) (plan-head-line 1 (omega arith));
        steps = between 1 most_steps (at l 2) (plan-head-line 2 (omega arith));
        tunnels = (between 0 most_tunnels (at l 3) (plan-head-line 3 (omega arith))).1;
        amounts = λ i four h. body-in i (omega arith) (omega (arith, plan-size)) h;
      }

-- a list that is judged good as a plan is what is got, and is good
pub good-plan : (l g : List ℕ) → judge_plan l ≡ good g → (g ≡ l) × GoodPlan l
good-plan l g e =
    let j = judged-good Plan l g e in
    (j.same, plan-ranges l j.whole)

-- and a good plan is judged good
module _ (l : List ℕ) (g : GoodPlan l) where
  head_in : (i : ℕ) → i < 4 → T (allows (get_or plan_lines i None) (at l i))
  head_in zero h = let e : at l 0 ≡ 1 = g.edition in rw e tt
  head_in (suc zero) h = in_between 1 most_steps (at l 1) g.parts.0 g.parts.1
  head_in (suc (suc zero)) h = in_between 1 most_steps (at l 2) g.steps.0 g.steps.1
  head_in (suc (suc (suc zero))) h = in_between 0 most_tunnels (at l 3) (omega arith) g.tunnels
  head_in (suc (suc (suc (suc i)))) h = absurd (omega arith)

  plan-sound : (i : ℕ) → i < length l → Dec (i < 4) → T (allows (field_of Plan (take i l)) (get_or l i 0))
  plan-sound i h (yes k) = rw (plan-head-field l i (le_of_lt h) k) (head_in i k)
  plan-sound i h (no k) =
      let four : 4 ≤ i = omega arith in
      let n : i < plan_size (plan_sizes l) = omega (arith, g.size) in
      rw (plan-body-field l i (le_of_lt h) four, lt-ltb i (plan_size (plan_sizes l)) n)
      (in_between 0 (most_amount * at l 1) (at l i) (omega arith) (g.amounts i (omega arith) h))

  plan-ends : field_of Plan l ≡ None
  unfolding field_of
  plan-ends =
      let four : 4 ≤ length l = omega (arith, g.size) in
      let n : plan_size (plan_sizes l) ≤ length l = omega (arith, g.size) in
      rw (le-ltb (length l) 4 four, le-ltb (length l) (plan_size (plan_sizes l)) n)

  pub whole-plan : Whole Plan l
  unfolding Sound
  whole-plan = record { sound = λ i h. plan-sound i h (dec_lt i 4); ends = plan-ends }

  pub plan-good : judge_plan l ≡ good l
  unfolding add_up
  plan-good = good-judged Plan l whole-plan refl
