-- How long the lines of a list are: all that is not a decimal digit, and those.
use mathlib.Core.Path.{◌≡◌, refl, sym, ap, ap₂, ◌∙◌}
use mathlib.Core.Bool.{true, false}
use mathlib.Core.List.{List, [], ◌∷◌, ◌++◌}
use mathlib.Core.Logic.{⊎_elim}
use Prim.Native.Nat.{ℕ, zero, suc, ◌+◌, ◌*◌, ◌-◌, ◌≤◌, ◌<◌}
use native.Mathlib.Numerals.{add-one}
use native.Mathlib.Nat.{zero-add, le_of_lt}
use native.Mathlib.Decide.{dec_lt}
use native.Mathlib.Omega.{arith}
use lib.ListN.{length, get_or, take, length-append}
use lib.Seq.{length-take-le, get_or-take}
use Rattle.model.proofs.Searches.{bool_cases}
use Rattle.lists.specs.Lists.{has_next, has_held, head_size, per_link, per_flow, network_sizes, network_of, link_at, flow_at, tunnel_at}
use Rattle.lists.specs.Good.{GoodNetwork, GoodPlan}
use Rattle.lists.specs.declared.Network as counts
use Rattle.lists.proofs.Positions.{with-unit, without-unit, head-low, two-a-link, one-a-link, link-most, second, flow-most, third, with-next, without-next, link-at, flow-at, tunnel-at, flows-follow, tunnels-follow, each_number}
use Rattle.forms.specs.Bytes.{bytes}
use Rattle.forms.specs.Form.{Whole, plan_lines}
use Rattle.forms.specs.Write.{digits_in, width_of, render}
use Rattle.forms.specs.declared.form.Form.{Form}
use Rattle.forms.specs.declared.form.Form.TheVariants.{Network, Plan}
use Rattle.forms.proofs.Forms.{lines-in-head, head-there}
use Rattle.forms.proofs.Numbers.{length_digits}
use Rattle.lengths.specs.Lines.{line_at, lines_from, Decimal, widths_of, tunnel_widths, head_bytes, link_bytes, flow_bytes}
use Rattle.lengths.proofs.Runs.{DecimalAt, lines_none, lines_more, all_lines, net-line, scratch-line, overrun-line, unit-line, links-line, flows-line, tunnels-line, cap-line, held-line, class-line, rate-line, next-line, flow-line, via-line, old-line, new_line, plan-line, parts-line, steps-line, plan-tunnels-line, at-line}

module _ (l : List ℕ) where
  pub widths-none : widths_of l 0 ≡ 0
  unfolding widths_of
  widths-none = refl

  pub widths-more : (n : ℕ) → widths_of l (n + 1) ≡ widths_of l n + width_of (get_or l n 0)
  unfolding widths_of
  widths-more n = rw add-one

  -- of the first n numbers by themselves
  module _ (n : ℕ) (h : n ≤ length l) where
    widths-kept : (m : ℕ) → m ≤ n → widths_of (take n l) m ≡ widths_of l m
    unfolding widths_of
    widths-kept zero k = refl
    widths-kept (suc m) k = ap₂ (λ (w v : ℕ). w + width_of v) (widths-kept m (le_of_lt k)) (get_or-take n l m 0 k)

    pub widths-first : widths_of (take n l) (length (take n l)) ≡ widths_of l n
    widths-first = ap (widths_of (take n l)) (length-take-le n l h) ∙ widths-kept n (omega arith)

  pub tunnel-widths-none : tunnel_widths l 0 ≡ 0
  unfolding tunnel_widths
  tunnel-widths-none = refl

  pub tunnel-widths-more : (t : ℕ) → tunnel_widths l (t + 1)
      ≡ tunnel_widths l t + (width_of ((network_of l).flow t) + width_of ((network_of l).old t) + width_of ((network_of l).new t))
  unfolding tunnel_widths
  tunnel-widths-more t = rw add-one

  -- by where the numbers stand
  tunnel-widths-at : (t : ℕ) → tunnel_widths l (t + 1)
      ≡ tunnel_widths l t + (width_of (get_or l (tunnel_at (network_sizes l) t) 0) + width_of (get_or l (tunnel_at (network_sizes l) t + 2) 0) + width_of (get_or l (tunnel_at (network_sizes l) t + 3) 0))
  unfolding network_of
  tunnel-widths-at t = tunnel-widths-more t

pub head-bytes-most : (edition : ℕ) → head_bytes edition ≤ 52
unfolding head_bytes
head-bytes-most edition = ⊎_elim (λ e. rw e (omega arith)) (λ e. rw e (omega arith)) (bool_cases (has_held edition))

pub link-bytes-most : (edition : ℕ) → link_bytes edition ≤ 11
unfolding link_bytes
link-bytes-most edition = ⊎_elim (λ e. rw e (omega arith)) (λ e. rw e (omega arith)) (bool_cases (has_held edition))

pub flow-bytes-most : (edition : ℕ) → flow_bytes edition ≤ 19
unfolding flow_bytes
flow-bytes-most edition = ⊎_elim (λ e. rw e (omega arith)) (λ e. rw e (omega arith)) (bool_cases (has_next edition))

-- ---- one line more

module _ (form : Form) (l : List ℕ) where
  -- the length of the first n lines, and the digits of the first n numbers
  abbrev size : ℕ → ℕ
  size n = length (lines_from form l 0 n)

  abbrev digits : ℕ → ℕ
  digits n = widths_of l n

  size-more : (n : ℕ) → size (n + 1) ≡ size n + length (line_at form l n)
  size-more n = ap length (rw zero-add at (lines_more form l 0 n)) ∙ length-append (lines_from form l 0 n) (line_at form l n)

  decimal-length : (n : ℕ) (key : List ℕ) → DecimalAt form l n key → length (line_at form l n) ≡ length key + width_of (get_or l n 0) + 1
  decimal-length n key d =
      let w = width_of (get_or l n 0) in
      let v = digits_in 10 (width_of (get_or l n 0)) (get_or l n 0) in
      omega (arith, ap length d.line, length-append key (v ++ (10 ∷ [])), length-append v (10 ∷ []), length_digits 10 w (get_or l n 0))

  -- the first n lines are so long: a number, and their digits
  abbrev Long : ℕ → ℕ → Type 0
  Long n c = size n ≡ c + digits n

  long-none : Long 0 0
  long-none = omega (arith, ap length (lines_none form l 0), widths-none l)

  long-more : (n n' c c' : ℕ) (key : List ℕ) → n' ≡ n + 1 → c' ≡ c + length key + 1 → DecimalAt form l n key → Long n c → Long n' c'
  long-more n n' c c' key e f d h =
      rw (e, f) (omega (arith, size-more n, decimal-length n key d, widths-more l n))

-- ---- the plan

module _ (l : List ℕ) (g : GoodPlan l) where
  plan-head-long : Long Plan l 4 29
  plan-head-long =
      let one : Long Plan l 1 6 = long-more Plan l 0 1 0 6 (bytes "plan=") refl refl (plan-line l g) (long-none Plan l) in
      let two : Long Plan l 2 13 = long-more Plan l 1 2 6 13 (bytes "parts=") refl refl (parts-line l g) one in
      let three : Long Plan l 3 20 = long-more Plan l 2 3 13 20 (bytes "steps=") refl refl (steps-line l g) two in
      long-more Plan l 3 4 20 29 (bytes "tunnels=") refl refl (plan-tunnels-line l g) three

  rows_long : (n : ℕ) → 4 + n ≤ length l → Long Plan l (4 + n) (29 + 4 * n)
  rows_long zero h = plan-head-long
  rows_long (suc n) h = long-more Plan l (4 + n) (4 + suc n) (29 + 4 * n) (29 + 4 * suc n) (bytes "at=") (omega arith) (omega arith) (at-line l g (4 + n) (omega arith) (omega arith)) (rows_long n (omega arith))

  pub plan-length : length (render Plan l) ≡ 29 + 4 * (length l - length plan_lines) + widths_of l (length l)
  plan-length =
      let e : 4 + (length l - 4) ≡ length l = omega (arith, g.size) in
      omega (arith, rw (e, all_lines Plan l) at (rows_long (length l - 4) (omega arith)))

  plan-head-number : (i : ℕ) → i < length plan_lines → Decimal l i
  plan-head-number zero h = (plan-line l g).number
  plan-head-number (suc zero) h = (parts-line l g).number
  plan-head-number (suc (suc zero)) h = (steps-line l g).number
  plan-head-number (suc (suc (suc zero))) h = (plan-tunnels-line l g).number
  plan-head-number (suc (suc (suc (suc i)))) h = absurd (omega arith)

  -- all numbers of a plan are decimal
  pub plan-number : (i : ℕ) → i < length l → Decimal l i
  plan-number i h = go (dec_lt i 4)
    where
      go : Dec (i < 4) → Decimal l i
      go (yes k) = plan-head-number i k
      go (no k) = (at-line l g i (omega arith) h).number

-- ---- the network

module _ (l : List ℕ) (g : GoodNetwork l) (w : Whole Network l) where
  abbrev edition : ℕ
  edition = get_or l 0 0

  abbrev sizes : counts.Network
  sizes = network_sizes l

  -- the counts' lines, where c stands for what is not a digit before them
  counts-long : (n c : ℕ) → n ≡ head_size edition - 3 → Long Network l n c → Long Network l (head_size edition) (c + 23)
  counts-long n c e before =
      let one : Long Network l (n + 1) (c + 7) = long-more Network l n (n + 1) c (c + 7) (bytes "links=") refl (omega arith) (links-line l g n e) before in
      let two : Long Network l (n + 2) (c + 14) = long-more Network l (n + 1) (n + 2) (c + 7) (c + 14) (bytes "flows=") (omega arith) (omega arith) (flows-line l g (n + 1) (omega arith)) one in
      long-more Network l (n + 2) (head_size edition) (c + 14) (c + 23) (bytes "tunnels=") (omega (arith, head-low edition)) (omega arith) (tunnels-line l g (n + 2) (omega arith)) two

  network-head-long : Long Network l (head_size edition) (head_bytes edition)
  unfolding head_bytes
  network-head-long =
      ⊎_elim
      (λ (e : has_held edition ≡ true). rw e (counts-long 4 29 (omega (arith, with-unit edition e)) (long-more Network l 3 4 23 29 (bytes "unit=") refl refl (unit-line l g w e) three)))
      (λ (e : has_held edition ≡ false). rw e (counts-long 3 23 (omega (arith, without-unit edition e)) three))
      (bool_cases (has_held edition))
    where
      two : Long Network l 2 14
      two =
          long-more Network l 1 2 5 14 (bytes "scratch=") refl refl (scratch-line l g)
          (long-more Network l 0 1 0 5 (bytes "net=") refl refl (net-line l g) (long-none Network l))

      three : Long Network l 3 23
      three = long-more Network l 2 3 14 23 (bytes "overrun=") refl refl (overrun-line l g) two

  -- the lines of link k, likewise
  link-long : (k c : ℕ) → k < sizes.links → Long Network l (link_at sizes k) c → Long Network l (link_at sizes k + per_link sizes.edition) (c + link_bytes sizes.edition)
  unfolding link_bytes
  link-long k c h before =
      ⊎_elim
      (λ (e : has_held sizes.edition ≡ true).
      rw (two-a-link sizes.edition e, e) (long-more Network l (i + 1) (i + 2) (c + 5) (c + 11) (bytes "held=") (omega arith) (omega arith) (held-line l g k (i + 1) h e refl) one))
      (λ (e : has_held sizes.edition ≡ false). rw (one-a-link sizes.edition e, e) one)
      (bool_cases (has_held sizes.edition))
    where
      i : ℕ
      i = link_at sizes k

      one : Long Network l (i + 1) (c + 5)
      one = long-more Network l i (i + 1) c (c + 5) (bytes "cap=") refl (omega arith) (cap-line l g k i h refl) before

  links-long : (k : ℕ) → k ≤ sizes.links → Long Network l (link_at sizes k) (head_bytes edition + link_bytes sizes.edition * k)
  links-long zero h = let e : head_bytes edition + link_bytes sizes.edition * 0 ≡ head_bytes edition = omega arith in rw (head-there l ∙ sym (lines-in-head edition), e) network-head-long
  links-long (suc k) h =
      let e : link_at sizes k + per_link sizes.edition ≡ link_at sizes (suc k) = omega (arith, link-at sizes k, link-at sizes (suc k)) in
      let r = rw e at (link-long k _ h (links-long k (le_of_lt h))) in
      omega (arith, r)

  -- the lines of flow f, where c stands for what is not a digit before them
  flow-long : (f c : ℕ) → f < sizes.flows → Long Network l (flow_at sizes f) c → Long Network l (flow_at sizes f + per_flow sizes.edition) (c + flow_bytes sizes.edition)
  unfolding flow_bytes
  flow-long f c h before =
      ⊎_elim
      (λ (e : has_next sizes.edition ≡ true).
      rw (with-next sizes.edition e, e) (long-more Network l (i + 2) (i + 3) (c + 13) (c + 19) (bytes "next=") (omega arith) (omega arith) (next-line l g f (i + 2) h e refl) two))
      (λ (e : has_next sizes.edition ≡ false). rw (without-next sizes.edition e, e) two)
      (bool_cases (has_next sizes.edition))
    where
      i : ℕ
      i = flow_at sizes f

      two : Long Network l (i + 2) (c + 13)
      two =
          long-more Network l (i + 1) (i + 2) (c + 7) (c + 13) (bytes "rate=") (omega arith) (omega arith) (rate-line l g f (i + 1) h refl)
          (long-more Network l i (i + 1) c (c + 7) (bytes "class=") refl (omega arith) (class-line l g f i h refl) before)

  flows_long : (f : ℕ) → f ≤ sizes.flows → Long Network l (flow_at sizes f) (head_bytes edition + link_bytes sizes.edition * sizes.links + flow_bytes sizes.edition * f)
  flows_long zero h = rw (flows-follow sizes) (omega (arith, links-long sizes.links (omega arith)))
  flows_long (suc f) h =
      let e : flow_at sizes f + per_flow sizes.edition ≡ flow_at sizes (suc f) = omega (arith, flow-at sizes f, flow-at sizes (suc f)) in
      let r = rw e at (flow-long f _ h (flows_long f (le_of_lt h))) in
      omega (arith, r)

  via-length : (t i : ℕ) → t < sizes.tunnels → i ≡ tunnel_at sizes t + 1 → length (line_at Network l i) ≡ 21
  via-length t i h e =
      let d = digits_in 16 16 (get_or l i 0) in
      omega (arith, ap length (via-line l g t i h e), length-append d (10 ∷ []), length_digits 16 16 (get_or l i 0))

  -- the tunnels: the digits of their flows, old and new amounts are counted apart
  abbrev TunnelsLong : ℕ → Type 0
  TunnelsLong t = size Network l (tunnel_at sizes t) ≡ head_bytes edition + link_bytes sizes.edition * sizes.links + flow_bytes sizes.edition * sizes.flows + 37 * t + widths_of l (tunnel_at sizes 0) + tunnel_widths l t

  tunnels-none : TunnelsLong 0
  tunnels-none = rw (tunnels-follow sizes) (omega (arith, flows_long sizes.flows (omega arith), tunnel-widths-none l))

  tunnels-more : (t : ℕ) → t < sizes.tunnels → TunnelsLong t → TunnelsLong (t + 1)
  tunnels-more t h p =
      let i = tunnel_at sizes t in
      let e : i + 1 + 1 + 1 + 1 ≡ tunnel_at sizes (t + 1) = omega (arith, tunnel-at sizes t, tunnel-at sizes (t + 1)) in
      let old : i + 2 ≡ i + 1 + 1 = omega arith in
      let new : i + 3 ≡ i + 1 + 1 + 1 = omega arith in
      let width : ℕ → ℕ = λ j. width_of (get_or l j 0) in
      let flow-size = size-more Network l i ∙ ap (λ (n : ℕ). size Network l i + n) (decimal-length Network l i (bytes "flow=") (flow-line l g t i h refl)) in
      let via-size = size-more Network l (i + 1) ∙ ap (λ (n : ℕ). size Network l (i + 1) + n) (via-length t (i + 1) h refl) in
      let old-size = size-more Network l (i + 1 + 1) ∙ ap (λ (n : ℕ). size Network l (i + 1 + 1) + n) (decimal-length Network l (i + 1 + 1) (bytes "old=") (old-line l g t (i + 1 + 1) h (sym old))) in
      let new-size = size-more Network l (i + 1 + 1 + 1) ∙ ap (λ (n : ℕ). size Network l (i + 1 + 1 + 1) + n) (decimal-length Network l (i + 1 + 1 + 1) (bytes "new=") (new_line l g t (i + 1 + 1 + 1) h (sym new))) in
      omega (arith, flow-size, via-size, old-size, new-size, ap (size Network l) e, tunnel-widths-at l t, ap width old, ap width new)

  tunnels-long : (t : ℕ) → t ≤ sizes.tunnels → TunnelsLong t
  tunnels-long zero h = tunnels-none
  tunnels-long (suc t) h = rw (add-one t) at (tunnels-more t h (tunnels-long t (le_of_lt h)))

  pub network-length : length (render Network l)
      ≡ head_bytes edition + link_bytes sizes.edition * sizes.links + flow_bytes sizes.edition * sizes.flows + 37 * sizes.tunnels + widths_of l (tunnel_at sizes 0) + tunnel_widths l sizes.tunnels
  network-length = sym (ap length (all_lines Network l)) ∙ ap (size Network l) g.ranges.sized.size ∙ tunnels-long sizes.tunnels (omega arith)

  -- the numbers of the head, and then all before those of the tunnels, are decimal
  count-number : (i : ℕ) → head_size edition - 3 ≤ i → i < head_size edition → Decimal l i
  count-number i h k = go (i - (head_size edition - 3)) refl
    where
      go : (j : ℕ) → j ≡ i - (head_size edition - 3) → Decimal l i
      go zero e = (links-line l g i (omega arith)).number
      go (suc zero) e = (flows-line l g i (omega (arith, head-low edition))).number
      go (suc (suc zero)) e = (tunnels-line l g i (omega (arith, head-low edition))).number
      go (suc (suc (suc j))) e = absurd (omega arith)

  network-head-number : (i : ℕ) → i < head_size edition → Decimal l i
  network-head-number zero h = (net-line l g).number
  network-head-number (suc zero) h = (scratch-line l g).number
  network-head-number (suc (suc zero)) h = (overrun-line l g).number
  network-head-number (suc (suc (suc i))) h = ⊎_elim with without (bool_cases (has_held edition))
    where
      with : has_held edition ≡ true → Decimal l (suc (suc (suc i)))
      with e = go i refl
        where
          go : (j : ℕ) → j ≡ i → Decimal l (suc (suc (suc i)))
          go zero f = rw (← f) (unit-line l g w e).number
          go (suc j) f = count-number (suc (suc (suc i))) (omega (arith, with-unit edition e)) h

      without : has_held edition ≡ false → Decimal l (suc (suc (suc i)))
      without e = count-number (suc (suc (suc i))) (omega (arith, without-unit edition e)) h

  pub network-number : (i : ℕ) → i < tunnel_at sizes 0 → Decimal l i
  network-number i h = head (dec_lt i (head_size edition))
    where
      flow : (f j : ℕ) → f < sizes.flows → j < per_flow sizes.edition → flow_at sizes f + j < tunnel_at sizes 0 → Decimal l (flow_at sizes f + j)
      flow f zero k b less = (class-line l g f (flow_at sizes f + 0) k (omega arith)).number
      flow f (suc zero) k b less = (rate-line l g f (flow_at sizes f + 1) k refl).number
      flow f (suc (suc zero)) k b less = (next-line l g f (flow_at sizes f + 2) k (third sizes.edition b) refl).number
      flow f (suc (suc (suc j))) k b less = absurd (omega (arith, flow-most sizes.edition))

      link : (k j : ℕ) → k < sizes.links → j < per_link sizes.edition → link_at sizes k + j < tunnel_at sizes 0 → Decimal l (link_at sizes k + j)
      link k zero a b less = (cap-line l g k (link_at sizes k + 0) a (omega arith)).number
      link k (suc zero) a b less = (held-line l g k (link_at sizes k + 1) a (second sizes.edition b) refl).number
      link k (suc (suc j)) a b less = absurd (omega (arith, link-most sizes.edition))

      head : Dec (i < head_size edition) → Decimal l i
      head (yes k) = network-head-number i k
      head (no k) =
          each_number sizes (λ m. m < tunnel_at sizes 0 → Decimal l m)
          link
          flow
          (λ t j a b less. absurd (omega (arith, tunnel-at sizes t)))
          i (omega (arith, head-there l, lines-in-head edition)) (omega (arith, tunnel-at sizes sizes.tunnels)) h
