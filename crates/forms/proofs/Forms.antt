-- Laws of the forms: sets and shifts, which field stands where, and what the numbers of a sound list are bounded by.
use mathlib.Core.Path.{◌≡◌, refl, ap, ap₂, subst, ◌∙◌}
use mathlib.Core.Bool.{Bool, true, false, cond, ◌&&◌, ◌||◌, not, true≢false, false≢true}
use mathlib.Core.List.{List, [], ◌∷◌, ◌++◌}
use mathlib.Core.Logic.{⊎_elim}
use Prim.Native.Nat.{ℕ, zero, suc, ◌+◌, ◌*◌, ◌-◌, ◌/◌, ◌%◌, ◌^◌, ◌≤◌, ◌<◌}
use native.Mathlib.Nat.{le_of_lt, mul-le-mul, lt_of_lt_of_le, div-eq_of_lt, div-eq-sub-div}
use native.Mathlib.Decide.{dec_lt}
use native.Mathlib.Omega.{arith}
use lib.Dec.{T, eqb, leb, ltb, leb→le, ltb→lt, eqb-suc-zero}
use lib.Pow.{pow_mono, pow_pos}
use lib.ListN.{length, get_or, take, length-append, get_or-append}
use lib.Seq.{take-take, get_or-take, length-take-le, take-append-le, take-append_seam, get_or-append_seam}
use borrow.Author.Tests.{ne_eqb, lt-ltb, le-ltb, le-leb}
use Rattle.model.proofs.Searches.{both, bool_cases}
use Rattle.model.specs.Limits.{most_links, most_flows, most_tunnels, most_steps, most_amount, newest_edition, most_share, most_switches, most_room}
use Rattle.lists.specs.Lists.{at, has_next, has_held, head_size, per_link, per_flow, network_sizes, link_at, flow_at, tunnel_at, network_size, plan_sizes, plan_size, table_sizes, room_at, rule_at, tables_size, most_plan, most_numbers}
use Rattle.lists.specs.Good.{Limited, StandsAt}
use Rattle.lists.specs.declared.Position.{Position}
use Rattle.lists.specs.declared.Position.TheVariants as position
use Rattle.lists.specs.declared.Network as counts
use Rattle.lists.specs.declared.PlanSizes.{PlanSizes}
use Rattle.lists.specs.declared.RuleTables.{RuleTables}
use Rattle.lists.proofs.Positions.{grouped, before-end, in_group, with-unit, without-unit, head-low, link-some, link-most, flow-pos, link-at, flow-at, tunnel-at, flows-start, tunnels-start, head-size, head-most, most-network, most-in-all}
use Rattle.forms.specs.Form.{Field, line, plan_body, is_hex, admits_of, Sound, allows, field_of, count_lines, network_lines, link_lines, flow_lines, tunnel_lines, plan_lines, rules_lines, rule_lines, network_body, rules_body, most_of}
use Rattle.forms.specs.declared.form.Form.{Form}
use Rattle.forms.specs.declared.form.Form.TheVariants.{Network, Plan, Rules}
use Rattle.forms.specs.declared.form.Range.{Range}
use Rattle.std.specs.declared.option.Option.TheVariants.{None, Some}
use Rattle.forms.specs.declared.form.Key.{Key}
use Rattle.forms.specs.declared.form.Key.TheVariants as key
use Rattle.forms.specs.declared.form.Range.TheVariants.{Between, ZeroOr, Below, Set}

-- ---- sets and shifts

pub wide-set : (v n : ℕ) → v < 2 ^ 64 → 64 ≤ n → ltb v (2 ^ n) ≡ true
wide-set v n h k = lt-ltb v (2 ^ n) (lt_of_lt_of_le h (pow_mono k))

pub shifted : (v n : ℕ) → eqb (v / 2 ^ n) 0 ≡ ltb v (2 ^ n)
shifted v n = go (dec_lt v (2 ^ n))
  where
    go : Dec (v < 2 ^ n) → eqb (v / 2 ^ n) 0 ≡ ltb v (2 ^ n)
    go (yes h) = rw (div-eq_of_lt h, lt-ltb v (2 ^ n) h)
    go (no h) =
        let k : 2 ^ n ≤ v = omega arith in
        rw (le-ltb v (2 ^ n) k) (ne_eqb (v / 2 ^ n) 0 (λ e. let z : v / 2 ^ n ≡ (v - 2 ^ n) / 2 ^ n + 1 = div-eq-sub-div (pow_pos n) k in omega arith))

-- ---- what a range allows

pub between : (low high v : ℕ) → T (leb low v && leb v high) → (low ≤ v) × (v ≤ high)
between low high v t = (leb→le low v (both (leb low v) (leb v high) t).0, leb→le v high (both (leb low v) (leb v high) t).1)

pub in_between : (low high v : ℕ) → low ≤ v → v ≤ high → T (leb low v && leb v high)
in_between low high v h k = rw (le-leb low v h, le-leb v high k) tt

-- ---- sound lists

pub sound_none : (form : Form) → Sound form []
unfolding Sound
sound_none form i h = absurd (omega arith)

-- the numbers before an index of a sound list, and the one there
pub sound-at : (form : Form) (l : List ℕ) (i : ℕ) → i < length l → Sound form l → T (allows (field_of form (take i l)) (get_or l i 0))
unfolding Sound
sound-at form l i h s = s i h

pub sound-take : (form : Form) (l : List ℕ) (n : ℕ) → n ≤ length l → Sound form l → Sound form (take n l)
unfolding Sound
sound-take form l n h s i k =
    let less : i < n = omega (arith, length-take-le n l h) in
    rw (take-take i n l (le_of_lt less), get_or-take n l i 0 less) (s i (omega arith))

-- a sound list with one number more, which its field allows
pub sound_more : (form : Form) (l : List ℕ) (v : ℕ) → Sound form l → T (allows (field_of form l) v) → Sound form (l ++ (v ∷ []))
unfolding Sound
sound_more form l v s t i h = go (dec_lt i (length l))
  where
    go : Dec (i < length l) → T (allows (field_of form (take i (l ++ (v ∷ [])))) (get_or (l ++ (v ∷ [])) i 0))
    go (yes k) = rw (take-append-le i l (v ∷ []) (le_of_lt k), get_or-append l (v ∷ []) 0 i k) (s i k)
    go (no k) =
        let e : i ≡ length l = omega (arith, simp length-append at h) in
        rw (e, take-append_seam l (v ∷ []), get_or-append_seam l v [] 0) t

-- ---- the network's fields

-- a head, a link and a flow have as many lines as numbers
pub lines-in-head : (edition : ℕ) → head_size edition ≡ length (network_lines edition)
unfolding head_size
lines-in-head edition = ⊎_elim (λ e. rw e refl) (λ e. rw e refl) (bool_cases (has_held edition))

-- its last lines are those of the counts
pub count-field : (edition j : ℕ) → get_or (network_lines edition) (head_size edition - length count_lines + j) None ≡ get_or count_lines j None
count-field edition j = ⊎_elim with without (bool_cases (has_held edition))
  where
    with : has_held edition ≡ true → get_or (network_lines edition) (head_size edition - length count_lines + j) None ≡ get_or count_lines j None
    with e = let k : head_size edition - 3 + j ≡ suc (suc (suc (suc j))) = omega (arith, with-unit edition e) in rw (k, e) refl

    without : has_held edition ≡ false → get_or (network_lines edition) (head_size edition - length count_lines + j) None ≡ get_or count_lines j None
    without e = let k : head_size edition - 3 + j ≡ suc (suc (suc j)) = omega (arith, without-unit edition e) in rw (k, e) refl

pub head-lines : (n : counts.Network) → link_at n 0 ≡ length (network_lines n.edition)
head-lines n = head-size n ∙ lines-in-head n.edition

pub head-there : (l : List ℕ) → link_at (network_sizes l) 0 ≡ length (network_lines (at l 0))
unfolding network_sizes
head-there l = head-lines (network_sizes l)

pub link-lines : (edition before : ℕ) → length (link_lines edition before) ≡ per_link edition
unfolding per_link
link-lines edition before = ⊎_elim (λ e. rw e refl) (λ e. rw e refl) (bool_cases (has_held edition))

pub flow-lines : (edition : ℕ) → length (flow_lines edition) ≡ per_flow edition
unfolding per_flow
flow-lines edition = ⊎_elim (λ e. rw e refl) (λ e. rw e refl) (bool_cases (has_next edition))

module _ (n : counts.Network) (before : ℕ) where
  pub body-link : (k j : ℕ) → k < n.links → j < per_link n.edition → network_body n before (link_at n k + j) ≡ get_or (link_lines n.edition before) j None
  unfolding network_body
  body-link k j h g =
      let x : link_at n k + j < flow_at n 0 = omega (arith, link-at n k, before-end _ (link-some n.edition) k n.links j h g, flows-start n) in
      let i : link_at n k + j - link_at n 0 ≡ per_link n.edition * k + j = omega (arith, link-at n k) in
      let z : (link_at n k + j - link_at n 0) % length (link_lines n.edition before) ≡ j = rw (link-lines n.edition before, i) (in_group _ (link-some n.edition) k j g) in
      rw (lt-ltb (link_at n k + j) (flow_at n 0) x, z)

  pub body-flow : (f j : ℕ) → f < n.flows → j < per_flow n.edition → network_body n before (flow_at n f + j) ≡ get_or (flow_lines n.edition) j None
  unfolding network_body
  body-flow f j h k =
      let x : flow_at n 0 ≤ flow_at n f + j = omega (arith, flow-at n f) in
      let y : flow_at n f + j < tunnel_at n 0 = omega (arith, flow-at n f, before-end _ (flow-pos n.edition) f n.flows j h k, tunnels-start n) in
      let i : flow_at n f + j - flow_at n 0 ≡ per_flow n.edition * f + j = omega (arith, flow-at n f) in
      let z : (flow_at n f + j - flow_at n 0) % length (flow_lines n.edition) ≡ j = rw (flow-lines n.edition, i) (in_group _ (flow-pos n.edition) f j k) in
      rw (le-ltb (flow_at n f + j) (flow_at n 0) x, lt-ltb (flow_at n f + j) (tunnel_at n 0) y, z)

  flows-before : flow_at n 0 ≤ tunnel_at n 0
  flows-before = omega (arith, tunnels-start n)

  pub body-tunnel : (t j : ℕ) → t < n.tunnels → j < length (tunnel_lines n) → network_body n before (tunnel_at n t + j) ≡ get_or (tunnel_lines n) j None
  unfolding network_body
  body-tunnel t j h k =
      let x : flow_at n 0 ≤ tunnel_at n t + j = omega (arith, tunnel-at n t, flows-before) in
      let y : tunnel_at n 0 ≤ tunnel_at n t + j = omega (arith, tunnel-at n t) in
      let w : tunnel_at n t + j < network_size n = omega (arith, tunnel-at n t, tunnel-at n n.tunnels) in
      let z : (tunnel_at n t + j - tunnel_at n 0) % length (tunnel_lines n) ≡ j = omega (arith, tunnel-at n t) in
      rw (le-ltb (tunnel_at n t + j) (flow_at n 0) x, le-ltb (tunnel_at n t + j) (tunnel_at n 0) y, lt-ltb (tunnel_at n t + j) (network_size n) w, z)

  pub body_end : (i : ℕ) → network_size n ≤ i → network_body n before i ≡ None
  unfolding network_body
  body_end i h =
      let y : tunnel_at n 0 ≤ i = omega (arith, tunnel-at n n.tunnels) in
      let x : flow_at n 0 ≤ i = omega (arith, flows-before) in
      rw (le-ltb i (flow_at n 0) x, le-ltb i (tunnel_at n 0) y, le-ltb i (network_size n) h)

  -- by what stands at a position
  module _ (i : ℕ) (r : Position) (s : StandsAt n i r) where
    pub stands-link : (k j : ℕ) → r ≡ position.Link k j → network_body n before i ≡ get_or (link_lines n.edition before) j None
    stands-link k j e = let p = subst (StandsAt n i) e s in ap (network_body n before) p.2 ∙ body-link k j p.0 p.1

    pub stands-flow : (f j : ℕ) → r ≡ position.Flow f j → network_body n before i ≡ get_or (flow_lines n.edition) j None
    stands-flow f j e = let p = subst (StandsAt n i) e s in ap (network_body n before) p.2 ∙ body-flow f j p.0 p.1

    pub stands-tunnel : (t j : ℕ) → r ≡ position.Tunnel t j → network_body n before i ≡ get_or (tunnel_lines n) j None
    stands-tunnel t j e = let p = subst (StandsAt n i) e s in ap (network_body n before) p.2 ∙ body-tunnel t j p.0 p.1

    pub stands-past : r ≡ position.Past → network_body n before i ≡ None
    stands-past e = body_end i (subst (StandsAt n i) e s)

-- the first field of a list, whatever its edition
first_field : (l : List ℕ) → field_of Network (take 0 l) ≡ get_or (network_lines (at l 0)) 0 None
unfolding field_of
first_field l = refl

-- the field at an index of a list, in the head and after it
module _ (l : List ℕ) (i : ℕ) (h : i ≤ length l) where
  pub edition-kept : 0 < i → at (take i l) 0 ≡ at l 0
  edition-kept k = get_or-take i l 0 0 k

  pub sizes-kept : length (network_lines (at l 0)) ≤ i → network_sizes (take i l) ≡ network_sizes l
  unfolding network_sizes
  sizes-kept k =
      let long : head_size (at l 0) ≤ i = omega (arith, lines-in-head (at l 0), k) in
      let some : 6 ≤ head_size (at l 0) = head-low (at l 0) in
      rw (edition-kept (omega arith), get_or-take i l (head_size (at l 0) - 3) 0 (omega arith), get_or-take i l (head_size (at l 0) - 2) 0 (omega arith), get_or-take i l (head_size (at l 0) - 1) 0 (omega arith)) refl

  -- by whether the head has so many lines
  by-head : 0 < i → field_of Network (take i l)
      ≡ cond (ltb i (length (network_lines (at l 0)))) (get_or (network_lines (at l 0)) i None) (network_body (network_sizes (take i l)) (at (take i l) (i - 1)) i)
  unfolding field_of
  by-head some =
      ap₂ (λ (e j : ℕ). cond (ltb j (length (network_lines e))) (get_or (network_lines e) j None) (network_body (network_sizes (take i l)) (at (take i l) (j - 1)) j)) (edition-kept some) (length-take-le i l h)

  in_head : 0 < i → i < length (network_lines (at l 0)) → field_of Network (take i l) ≡ get_or (network_lines (at l 0)) i None
  in_head some k =
      by-head some ∙ ap (λ (b : Bool). cond b (get_or (network_lines (at l 0)) i None) (network_body (network_sizes (take i l)) (at (take i l) (i - 1)) i)) (lt-ltb i (length (network_lines (at l 0))) k)

  pub network-head-field : i < length (network_lines (at l 0)) → field_of Network (take i l) ≡ get_or (network_lines (at l 0)) i None
  network-head-field k = go (dec_lt 0 i)
    where
      go : Dec (0 < i) → field_of Network (take i l) ≡ get_or (network_lines (at l 0)) i None
      go (yes some) = in_head some k
      go (no first) = let e : i ≡ 0 = omega arith in rw e (first_field l)

  pub network-body-field : length (network_lines (at l 0)) ≤ i → field_of Network (take i l) ≡ network_body (network_sizes l) (at l (i - 1)) i
  network-body-field k =
      let some : 0 < i = omega (arith, lines-in-head (at l 0), head-low (at l 0), k) in
      by-head some
      ∙ ap (λ (b : Bool). cond b (get_or (network_lines (at l 0)) i None) (network_body (network_sizes (take i l)) (at (take i l) (i - 1)) i)) (le-ltb i (length (network_lines (at l 0))) k)
      ∙ ap₂ (λ (n : counts.Network) (before : ℕ). network_body n before i) (sizes-kept k) (get_or-take i l (i - 1) 0 (omega arith))

  pub plan-head-field : i < length plan_lines → field_of Plan (take i l) ≡ get_or plan_lines i None
  unfolding field_of
  plan-head-field k = rw (length-take-le i l h, lt-ltb i (length plan_lines) k)

  pub plan-body-field : length plan_lines ≤ i → field_of Plan (take i l) ≡ plan_body (plan_sizes l) i
  unfolding field_of
  plan-body-field k = rw (length-take-le i l h, le-ltb i (length plan_lines) k, get_or-take i l 1 0 (omega arith), get_or-take i l 2 0 (omega arith), get_or-take i l 3 0 (omega arith))

  pub rules-head-field : i < length rules_lines → field_of Rules (take i l) ≡ get_or rules_lines i None
  unfolding field_of
  rules-head-field k = rw (length-take-le i l h, lt-ltb i (length rules_lines) k)

  pub rules-body-field : length rules_lines ≤ i → field_of Rules (take i l) ≡ rules_body (table_sizes l) i
  unfolding field_of
  rules-body-field k = rw (length-take-le i l h, le-ltb i (length rules_lines) k, get_or-take i l 2 0 (omega arith), get_or-take i l 3 0 (omega arith))

-- the field after a list
module _ (l : List ℕ) where
  pub own-head : length l < length (network_lines (at l 0)) → field_of Network l ≡ get_or (network_lines (at l 0)) (length l) None
  unfolding field_of
  own-head k = ap (λ (b : Bool). cond b (get_or (network_lines (at l 0)) (length l) None) (network_body (network_sizes l) (at l (length l - 1)) (length l))) (lt-ltb (length l) (length (network_lines (at l 0))) k)

  pub own_body : length (network_lines (at l 0)) ≤ length l → field_of Network l ≡ network_body (network_sizes l) (at l (length l - 1)) (length l)
  unfolding field_of
  own_body k = ap (λ (b : Bool). cond b (get_or (network_lines (at l 0)) (length l) None) (network_body (network_sizes l) (at l (length l - 1)) (length l))) (le-ltb (length l) (length (network_lines (at l 0))) k)

-- before there is a number, the edition matters nothing
pub no-head : (l : List ℕ) → length l ≡ 0 → get_or (network_lines 0) (length l) None ≡ field_of Network l
unfolding field_of
no-head [] e = refl
no-head (v ∷ l) e = absurd (omega arith)

-- a sound network's number in the head, and after it
module _ (l : List ℕ) (s : Sound Network l) where
  pub network-head-at : (i : ℕ) → i < length l → i < length (network_lines (at l 0)) → T (allows (get_or (network_lines (at l 0)) i None) (at l i))
  network-head-at i h k = rw (network-head-field l i (le_of_lt h) k) at (sound-at Network l i h s)

  pub network-body-at : (i : ℕ) → i < length l → length (network_lines (at l 0)) ≤ i → T (allows (network_body (network_sizes l) (at l (i - 1)) i) (at l i))
  network-body-at i h k = rw (network-body-field l i (le_of_lt h) k) at (sound-at Network l i h s)

-- what the lines of a head say of the counts
abbrev pub InHead : List ℕ → Type 0
InHead l = (i : ℕ) → i < length (network_lines (at l 0)) → T (allows (get_or (network_lines (at l 0)) i None) (at l i))

module _ (l : List ℕ) (t : InHead l) where
  count-line : (j : ℕ) → j < length count_lines → T (allows (get_or count_lines j None) (at l (head_size (at l 0) - length count_lines + j)))
  count-line j h = rw (count-field (at l 0) j) at (t (head_size (at l 0) - length count_lines + j) (omega (arith, lines-in-head (at l 0), head-low (at l 0))))

  pub limited : (1 ≤ (network_sizes l).links) × Limited (network_sizes l)
  unfolding network_sizes
  limited =
      let h : ℕ = head_size (at l 0) in
      let low = head-low (at l 0) in
      let zero' : h - 3 + 0 ≡ h - 3 = omega arith in
      let one : h - 3 + 1 ≡ h - 2 = omega (arith, low) in
      let two : h - 3 + 2 ≡ h - 1 = omega (arith, low) in
      let k = between 1 most_links (at l (h - 3)) (rw zero' at (count-line 0 (omega arith))) in
      (k.0, record { links = k.1; flows = (between 0 most_flows (at l (h - 2)) (rw one at (count-line 1 (omega arith)))).1; tunnels = (between 0 most_tunnels (at l (h - 1)) (rw two at (count-line 2 (omega arith)))).1 })

pub head-of-network : (l : List ℕ) → Sound Network l → length (network_lines (at l 0)) ≤ length l → Limited (network_sizes l)
head-of-network l s h = (limited l (λ i k. network-head-at l s i (omega arith) k)).1

-- ---- the plan's fields

module _ (l : List ℕ) (s : Sound Plan l) where
  pub plan-head-at : (i : ℕ) → i < length l → i < length plan_lines → T (allows (get_or plan_lines i None) (at l i))
  plan-head-at i h k = rw (plan-head-field l i (le_of_lt h) k) at (sound-at Plan l i h s)

  pub plan-body-at : (i : ℕ) → i < length l → length plan_lines ≤ i → T (allows (plan_body (plan_sizes l) i) (at l i))
  plan-body-at i h k = rw (plan-body-field l i (le_of_lt h) k) at (sound-at Plan l i h s)

pub record PlanHead (l : List ℕ) : Type 0 where
  pub parts : (1 ≤ (plan_sizes l).parts) × ((plan_sizes l).parts ≤ most_steps)
  pub steps : (1 ≤ (plan_sizes l).steps) × ((plan_sizes l).steps ≤ most_steps)
  pub tunnels : (plan_sizes l).tunnels ≤ most_tunnels

pub head-of-plan : (l : List ℕ) → Sound Plan l → length plan_lines ≤ length l → PlanHead l
head-of-plan l s h =
    record {
      parts = between 1 most_steps (at l 1) (plan-head-at l s 1 (omega arith) (omega arith));
      steps = between 1 most_steps (at l 2) (plan-head-at l s 2 (omega arith) (omega arith));
      tunnels = (between 0 most_tunnels (at l 3) (plan-head-at l s 3 (omega arith) (omega arith))).1;
    }

-- ---- the rule tables' fields

module _ (n : RuleTables) where
  pub body-room : (s : ℕ) → s < n.switches → rules_body n (room_at n s) ≡ line key.Room (Between 0 most_room)
  unfolding rules_body
  body-room s h = let x : room_at n s < rule_at n 0 = omega arith in rw (lt-ltb (room_at n s) (rule_at n 0) x)

  pub body-rule : (t j : ℕ) → t < n.tunnels → j < length (rule_lines n) → rules_body n (rule_at n t + j) ≡ get_or (rule_lines n) j None
  unfolding rules_body
  body-rule t j h k =
      let x : rule_at n 0 ≤ rule_at n t + j = omega arith in
      let y : rule_at n t + j < tables_size n = omega arith in
      let z : (rule_at n t + j - rule_at n 0) % length (rule_lines n) ≡ j = omega arith in
      rw (le-ltb (rule_at n t + j) (rule_at n 0) x, lt-ltb (rule_at n t + j) (tables_size n) y, z)

  pub rules-end : (i : ℕ) → tables_size n ≤ i → rules_body n i ≡ None
  unfolding rules_body
  rules-end i h = let x : rule_at n 0 ≤ i = omega arith in rw (le-ltb i (rule_at n 0) x, le-ltb i (tables_size n) h)

module _ (l : List ℕ) (s : Sound Rules l) where
  pub rules-head-at : (i : ℕ) → i < length l → i < length rules_lines → T (allows (get_or rules_lines i None) (at l i))
  rules-head-at i h k = rw (rules-head-field l i (le_of_lt h) k) at (sound-at Rules l i h s)

  pub rules-body-at : (i : ℕ) → i < length l → length rules_lines ≤ i → T (allows (rules_body (table_sizes l) i) (at l i))
  rules-body-at i h k = rw (rules-body-field l i (le_of_lt h) k) at (sound-at Rules l i h s)

pub record RulesHead (l : List ℕ) : Type 0 where
  pub switches : (1 ≤ (table_sizes l).switches) × ((table_sizes l).switches ≤ most_switches)
  pub tunnels : (table_sizes l).tunnels ≤ most_tunnels

pub head-of-rules : (l : List ℕ) → Sound Rules l → length rules_lines ≤ length l → RulesHead l
head-of-rules l s h =
    record {
      switches = between 1 most_switches (at l 2) (rules-head-at l s 2 (omega arith) (omega arith));
      tunnels = (between 0 most_tunnels (at l 3) (rules-head-at l s 3 (omega arith) (omega arith))).1;
    }

-- ---- no list of a form is longer than the most numbers of the form

plan-most : (n : PlanSizes) → n.steps ≤ most_steps → n.tunnels ≤ most_tunnels → plan_size n ≤ most_plan
plan-most n h k = let q : n.steps - 1 ≤ most_steps - 1 = omega arith in omega (arith, mul-le-mul q k)

full : (form : Form) (l : List ℕ) → Sound form l → most_of form ≤ length l → field_of form l ≡ None
unfolding field_of
full Network l s h =
    let n = network_sizes l in
    let w : length (network_lines (at l 0)) ≤ length l = omega (arith, head-there l, head-most n) in
    rw (le-ltb (length l) (length (network_lines (at l 0))) w) (body_end n (at l (length l - 1)) (length l) (omega (arith, most-network n (head-of-network l s w))))
full Plan l s h =
    let b = head-of-plan l s (omega arith) in
    let x : plan_size (plan_sizes l) ≤ length l = omega (arith, plan-most (plan_sizes l) b.steps.1 b.tunnels) in
    let w : 4 ≤ length l = omega arith in
    simp (le-ltb (length l) 4 w, le-ltb (length l) (plan_size (plan_sizes l)) x)
full Rules l s h =
    let b = head-of-rules l s (omega arith) in
    let w : 4 ≤ length l = omega arith in
    rw (le-ltb (length l) 4 w) (rules-end (table_sizes l) (length l) (omega arith))

pub room : (form : Form) (l : List ℕ) (v : ℕ) → Sound form l → T (allows (field_of form l) v) → length l < most_of form
room form l v s t = go (dec_lt (length l) (most_of form))
  where
    go : Dec (length l < most_of form) → length l < most_of form
    go (yes h) = h
    go (no h) =
        let e : field_of form l ≡ None = full form l s (omega arith) in
        absurd (rw e at t)

pub most-numbers : (form : Form) → most_of form ≤ most_numbers
most-numbers Network = most-in-all
most-numbers Plan = omega arith
most-numbers Rules = omega arith

pub room-in-all : (form : Form) (l : List ℕ) (v : ℕ) → Sound form l → T (allows (field_of form l) v) → length l < most_numbers
room-in-all form l v s t = omega (arith, room form l v s t, most-numbers form)

-- ---- a bound on every range that a field can have

abbrev LowRange : Range → Type 0
LowRange (Between low high) = high ≤ most_amount * most_steps
LowRange (ZeroOr low high) = high ≤ most_amount * most_steps
LowRange (Below n) = n ≤ most_amount * most_steps
LowRange (Set n) = n ≤ most_links

abbrev Low : Field → Type 0
Low None = Unit {0}
Low (Some x) = LowRange x.range

low-cond : (b : Bool) (x y : Field) → Low x → Low y → Low (cond b x y)
low-cond true x y p q = p
low-cond false x y p q = q

abbrev Lows : List Field → Type 0
Lows [] = Unit {0}
Lows (f ∷ fs) = Low f × Lows fs

low-at : (fs : List Field) (n : ℕ) → Lows fs → Low (get_or fs n None)
low-at [] n p = tt
low-at (f ∷ fs) zero p = p.0
low-at (f ∷ fs) (suc n) p = low-at fs n p.1

lit : (n : ℕ) → T (leb n (most_amount * most_steps)) → n ≤ most_amount * most_steps
lit n t = leb→le n (most_amount * most_steps) t

low-flow : (edition : ℕ) → Lows (flow_lines edition)
low-flow edition = (lit 2 tt, (lit most_amount tt, ⊎_elim (λ e. rw e (lit most_amount tt, tt)) (λ e. rw e tt) (bool_cases (has_next edition))))

low-head : (edition : ℕ) → Lows (network_lines edition)
low-head edition =
    let counts : Lows count_lines = (lit most_links tt, (lit most_flows tt, (lit most_tunnels tt, tt))) in
    (lit newest_edition tt, (lit most_share tt, (lit most_share tt, ⊎_elim (λ e. rw e (lit 1 tt, counts)) (λ e. rw e counts) (bool_cases (has_held edition)))))

low-link : (edition before : ℕ) → before ≤ most_amount → Lows (link_lines edition before)
low-link edition before h = (lit most_amount tt, ⊎_elim (λ e. rw e (omega (arith, h), tt)) (λ e. rw e tt) (bool_cases (has_held edition)))

module _ (l : List ℕ) (s : Sound Network l) (long : length (network_lines (at l 0)) ≤ length l) where
  abbrev sizes : counts.Network
  sizes = network_sizes l

  abbrev last : ℕ
  last = at l (length l - 1)

  -- after a link's capacity the number before is no more than the largest amount
  after-cap : (k : ℕ) → k < sizes.links → length l ≡ link_at sizes k + 1 → last ≤ most_amount
  after-cap k h i =
      let e : length l - 1 ≡ link_at sizes k + 0 = omega (arith, i) in
      let t = network-body-at l s (length l - 1) (omega (arith, i)) (omega (arith, i, head-there l, link-at sizes k)) in
      let before = at l (length l - 1 - 1) in
      (between 0 most_amount last (rw (ap (network_body sizes before) e ∙ body-link sizes before k 0 h (link-some sizes.edition)) at t)).1

  low-number : (k j : ℕ) → k < sizes.links → j < per_link sizes.edition → length l ≡ link_at sizes k + j → Low (get_or (link_lines sizes.edition last) j None)
  low-number k zero h g i = lit most_amount tt
  low-number k (suc zero) h g i = low-at (link_lines sizes.edition last) 1 (low-link sizes.edition last (after-cap k h i))
  low-number k (suc (suc j)) h g i = absurd (omega (arith, link-most sizes.edition))

  low-links : length l < flow_at sizes 0 → Low (network_body sizes last (length l))
  low-links h =
      let x = grouped (per_link sizes.edition) (link-some sizes.edition) (link_at sizes 0) sizes.links (length l) (omega (arith, long, head-there l)) (omega (arith, flows-start sizes, h)) in
      let i : length l ≡ link_at sizes x.group + x.number = omega (arith, x.here, link-at sizes x.group) in
      rw (ap (network_body sizes last) i ∙ body-link sizes last x.group x.number x.there x.within) (low-number x.group x.number x.there x.within i)

  low-rest : flow_at sizes 0 ≤ length l → Limited sizes → Low (network_body sizes last (length l))
  unfolding network_body
  low-rest h few =
      rw (le-ltb (length l) (flow_at sizes 0) h)
      (low-cond (ltb (length l) (tunnel_at sizes 0)) (get_or (flow_lines sizes.edition) ((length l - flow_at sizes 0) % length (flow_lines sizes.edition)) None) _ (low-at (flow_lines sizes.edition) ((length l - flow_at sizes 0) % length (flow_lines sizes.edition)) (low-flow sizes.edition))
      (low-cond (ltb (length l) (network_size sizes)) (get_or (tunnel_lines sizes) ((length l - tunnel_at sizes 0) % 4) None) None
      (low-at (tunnel_lines sizes) ((length l - tunnel_at sizes 0) % 4) (omega (arith, few.flows), (few.links, (lit most_amount tt, (lit most_amount tt, tt))))) tt))

  low-body : Dec (length l < flow_at sizes 0) → Low (network_body sizes last (length l))
  low-body (yes h) = low-links h
  low-body (no h) = low-rest (omega arith) (head-of-network l s long)

low-rules : (n : RuleTables) (i : ℕ) → n.switches ≤ most_switches → Low (rules_body n i)
unfolding rules_body
low-rules n i h =
    low-cond (ltb i (rule_at n 0)) (line key.Room (Between 0 most_room)) _ (lit most_room tt)
    (low-cond (ltb i (tables_size n)) (get_or (rule_lines n) ((i - rule_at n 0) % 2) None) None (low-at (rule_lines n) ((i - rule_at n 0) % 2) (h, (lit 3 tt, tt))) tt)

low_field : (form : Form) (l : List ℕ) → Sound form l → Low (field_of form l)
unfolding field_of
low_field Network l s = go (dec_lt (length l) (length (network_lines (at l 0))))
  where
    go : Dec (length l < length (network_lines (at l 0))) → Low (field_of Network l)
    go (yes h) = rw (lt-ltb (length l) (length (network_lines (at l 0))) h) (low-at (network_lines (at l 0)) (length l) (low-head (at l 0)))
    go (no h) =
        let k : length (network_lines (at l 0)) ≤ length l = omega arith in
        rw (le-ltb (length l) (length (network_lines (at l 0))) k) (low-body l s k (dec_lt (length l) (flow_at (network_sizes l) 0)))
low_field Plan l s = go (dec_lt (length l) 4)
  where
    go : Dec (length l < 4) → Low (field_of Plan l)
    go (yes h) = rw (lt-ltb (length l) 4 h) (low-at plan_lines (length l) (lit 1 tt, (lit most_steps tt, (lit most_steps tt, (lit most_tunnels tt, tt)))))
    go (no h) =
        let k : 4 ≤ length l = omega arith in
        let b = head-of-plan l s k in
        rw (le-ltb (length l) 4 k) (low-cond (ltb (length l) (plan_size (plan_sizes l))) (line key.At (Between 0 (most_amount * at l 1))) None (omega (arith, b.parts.1)) tt)
low_field Rules l s = go (dec_lt (length l) 4)
  where
    go : Dec (length l < 4) → Low (field_of Rules l)
    go (yes h) = rw (lt-ltb (length l) 4 h) (low-at rules_lines (length l) (lit 1 tt, (lit most_share tt, (lit most_switches tt, (lit most_tunnels tt, tt)))))
    go (no h) =
        let k : 4 ≤ length l = omega arith in
        rw (le-ltb (length l) 4 k) (low-rules (table_sizes l) (length l) (head-of-rules l s k).switches.1)

-- no number that is written in decimal has more than 10 digits, and none in hexadecimal more than 16
pub zero_or : (low high v : ℕ) → T (eqb v 0 || (leb low v && leb v high)) → v ≤ high
zero_or low high zero t = omega arith
zero_or low high (suc v) t = (between low high (suc v) (rw (eqb-suc-zero v) at t)).1

low-decimal : (k : Key) (r : Range) (v : ℕ) → Low (line k r) → T (admits_of r v) → is_hex r ≡ false → v < 10000000000
low-decimal k (Between low high) v b t e = omega (arith, (between low high v t).1)
low-decimal k (ZeroOr low high) v b t e = omega (arith, zero_or low high v t)
low-decimal k (Below n) v b t e = omega (arith, ltb→lt v n t)
low-decimal k (Set n) v b t e = absurd (true≢false e)

low-hex : (k : Key) (r : Range) (v : ℕ) → Low (line k r) → T (admits_of r v) → is_hex r ≡ true → v < 2 ^ 64
low-hex k (Between low high) v b t e = absurd (false≢true e)
low-hex k (ZeroOr low high) v b t e = absurd (false≢true e)
low-hex k (Below n) v b t e = absurd (false≢true e)
low-hex k (Set n) v b t e = lt_of_lt_of_le (ltb→lt v (2 ^ n) (both (not (eqb v 0)) (ltb v (2 ^ n)) t).1) (pow_mono b)

module _ (form : Form) (l : List ℕ) (k : Key) (r : Range) (v : ℕ) (s : Sound form l) (e : field_of form l ≡ line k r) (t : T (admits_of r v)) where
  pub small : is_hex r ≡ false → v < 10000000000
  small x = low-decimal k r v (rw e at (low_field form l s)) t x

  pub small-set : is_hex r ≡ true → v < 2 ^ 64
  small-set x = low-hex k r v (rw e at (low_field form l s)) t x
