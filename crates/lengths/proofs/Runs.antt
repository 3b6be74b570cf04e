-- The lines of a list, from any on: what they are, and what is written of them after one more.
use mathlib.Core.Path.{◌≡◌, refl, sym, ap, ◌∙◌}
use mathlib.Core.Bool.{Bool, true, false, cond}
use mathlib.Core.Logic.{⊎_elim}
use lib.Dec.{T}
use mathlib.Core.List.{List, [], ◌++◌, append_assoc, append-nil}
use Prim.Native.Nat.{ℕ, zero, suc, ◌+◌, ◌-◌, ◌≤◌, ◌<◌}
use native.Mathlib.Nat.{add-zero, zero-add, add-suc, add_assoc, le_of_lt}
use native.Mathlib.Numerals.{add-one}
use native.Mathlib.Omega.{arith}
use lib.ListN.{length, get_or, take, drop, length-append}
use Rattle.model.specs.Limits.{most_amount}
use borrow.Author.Tests.{lt-ltb}
use Rattle.lists.specs.Lists.{has_next, has_held, head_size, per_link, per_flow, network_sizes, link_at, flow_at, tunnel_at, plan_sizes, plan_size, network_size}
use Rattle.lists.specs.Good.{GoodNetwork, GoodPlan}
use Rattle.lists.specs.declared.Network as counts
use Rattle.lists.proofs.Held.{with-held}
use Rattle.lists.proofs.Positions.{with-unit, short, short-plan, most-in-all, next-third, head-low, two-a-link, flow-some, with-next, link-some, head_in, link-in, flow-in, tunnel-in, link-after, flow-after, tunnel-after}
use Rattle.forms.specs.Bytes.{bytes}
use Rattle.forms.specs.Keys.{prefix_of}
use Rattle.forms.specs.Form.{Field, line, allows, field_of, is_hex, Sound, Whole, count_lines, network_lines, network_body, link_lines, flow_lines, tunnel_lines, plan_lines}
use Rattle.forms.specs.Write.{width_of, line_of, render, render_from}
use Rattle.forms.specs.declared.form.Form.{Form}
use Rattle.forms.specs.declared.form.Form.TheVariants.{Network, Plan}
use Rattle.forms.specs.declared.form.Range.{Range}
use Rattle.forms.specs.declared.form.Range.TheVariants.{Between}
use Rattle.forms.specs.declared.form.Key.{Key}
use Rattle.forms.specs.declared.form.Key.TheVariants as key
use Rattle.std.specs.declared.option.Option.TheVariants.{None}
use Rattle.forms.proofs.Forms.{between, network-head-at, lines-in-head, count-field, head-there, body-link, body-flow, body-tunnel, network-head-field, network-body-field, plan-head-field, plan-body-field}
use Rattle.forms.proofs.Rendering.{render-step, render-end, short-value, line-length}
use Rattle.lines.specs.Puts.{Puts, decimal_line, hex_line}
use Rattle.lengths.specs.Lines.{line_at, lines_from, Decimal, Writable}
use Rattle.lines.proofs.Writing.{puts_none, then-fits, then-puts}

-- ---- lines one after the other

module _ (form : Form) (l : List ℕ) where
  pub lines_none : (i : ℕ) → lines_from form l i 0 ≡ []
  unfolding lines_from
  lines_none i = refl

  pub lines_more : (i n : ℕ) → lines_from form l i (n + 1) ≡ lines_from form l i n ++ line_at form l (i + n)
  unfolding lines_from
  lines_more i n = rw add-one

  lines_join : (i m n : ℕ) → lines_from form l i m ++ lines_from form l (i + m) n ≡ lines_from form l i (m + n)
  unfolding lines_from
  lines_join i m zero = rw add-zero (append-nil (lines_from form l i m))
  lines_join i m (suc n) =
      rw (add-suc m n, ← append_assoc (lines_from form l i m) (lines_from form l (i + m) n) (line_at form l (i + m + n)), lines_join i m n, add_assoc i m n)

  -- fewer lines are not longer
  lines-mono : (i m n : ℕ) → m ≤ n → length (lines_from form l i m) ≤ length (lines_from form l i n)
  lines-mono i m n h =
      let e : m + (n - m) ≡ n = omega arith in
      omega (arith, length-append (lines_from form l i m) (lines_from form l (i + m) (n - m)), ap length (lines_join i m (n - m)), ap (λ (k : ℕ). length (lines_from form l i k)) e)

  -- all of them are what the list is written as
  so_far : (n : ℕ) → n ≤ length l → lines_from form l 0 n ++ render_from form (take n l) (drop n l) ≡ render form l
  unfolding lines_from render line_at
  so_far zero h = refl
  so_far (suc n) h =
      rw (zero-add n, append_assoc (lines_from form l 0 n) (line_of (field_of form (take n l)) (get_or l n 0)))
      (ap (λ (t : List ℕ). lines_from form l 0 n ++ t) (sym (rw add-one at (render-step form l n h))) ∙ so_far n (le_of_lt h))

  pub all_lines : lines_from form l 0 (length l) ≡ render form l
  all_lines =
      let here : length l ≤ length l = omega arith in
      sym (append-nil (lines_from form l 0 (length l))) ∙ rw (← render-end form (take (length l) l) l (length l) here) (so_far (length l) here)

-- no line is put
pub no_lines : (form : Form) (l : List ℕ) (i at : ℕ) (out : List ℕ) → Puts (lines_from form l i 0) at out out at
no_lines form l i at out = rw (lines_none form l i) (puts_none at out)

-- where there is room for n lines, there is for m of them
pub run-within : (form : Form) (l : List ℕ) (i m n at : ℕ) (out : List ℕ) → m ≤ n → at + length (lines_from form l i n) ≤ length out → at + length (lines_from form l i m) ≤ length out
run-within form l i m n at out h fits = omega (arith, lines-mono form l i m n h)

-- n lines from i on are written from a place on, of which m are
module _ (form : Form) (l : List ℕ) (i n : ℕ) {at : ℕ} {out : List ℕ} (fits : at + length (lines_from form l i n) ≤ length out) where
  -- and the next, at j
  module _ (m j : ℕ) (less : m < n) (same : j ≡ i + m) {line : List ℕ} (e : line_at form l j ≡ line) {out₁ : List ℕ} {a : ℕ}
      (p : Puts (lines_from form l i m) at out out₁ a) where
    with-line : lines_from form l i (m + 1) ≡ lines_from form l i m ++ line
    with-line = lines_more form l i m ∙ ap (λ (t : List ℕ). lines_from form l i m ++ t) (rw same at e)

    more-fits : at + length (lines_from form l i m ++ line) ≤ length out
    more-fits = omega (arith, run-within form l i (m + 1) n at out (omega arith) fits, ap length with-line)

    pub next_fits : a + length line ≤ length out₁
    next_fits = then-fits line more-fits p

    pub next-put : (m' : ℕ) → m' ≡ m + 1 → {out₂ : List ℕ} {b : ℕ} → Puts line a out₁ out₂ b → Puts (lines_from form l i m') at out out₂ b
    next-put m' k q = rw (k, with-line) (then-puts more-fits p q)

  -- and the next k, from j on
  module _ (m k j : ℕ) (within : m + k ≤ n) (same : j ≡ i + m) {out₁ : List ℕ} {a : ℕ} (p : Puts (lines_from form l i m) at out out₁ a) where
    with-run : lines_from form l i m ++ lines_from form l j k ≡ lines_from form l i (m + k)
    with-run = rw same (lines_join form l i m k)

    runs_fit : at + length (lines_from form l i m ++ lines_from form l j k) ≤ length out
    runs_fit = omega (arith, run-within form l i (m + k) n at out within fits, ap length with-run)

    pub run_fits : a + length (lines_from form l j k) ≤ length out₁
    run_fits = then-fits (lines_from form l j k) runs_fit p

    pub run-put : (m' : ℕ) → m' ≡ m + k → {out₂ : List ℕ} {b : ℕ} → Puts (lines_from form l j k) a out₁ out₂ b → Puts (lines_from form l i m') at out out₂ b
    run-put m' e q = rw e (rw with-run at (then-puts runs_fit p q))

-- where there is room for the whole text, there is for its first m lines
pub front_fits : (form : Form) (l : List ℕ) (m : ℕ) (out : List ℕ) → length (render form l) ≤ length out → m ≤ length l → length (lines_from form l 0 m) ≤ length out
front_fits form l m out fits within = omega (arith, lines-mono form l 0 m (length l) within, ap length (all_lines form l))

-- the first m lines are written from the front on, and then n more
module _ (form : Form) (l : List ℕ) (m n : ℕ) {out out₁ : List ℕ} {a : ℕ} (fits : length (render form l) ≤ length out) (within : m + n ≤ length l)
    (p : Puts (lines_from form l 0 m) 0 out out₁ a) where
  joined : lines_from form l 0 m ++ lines_from form l m n ≡ lines_from form l 0 (m + n)
  joined = rw (zero-add m) at (lines_join form l 0 m n)

  joined-fits : 0 + length (lines_from form l 0 m ++ lines_from form l m n) ≤ length out
  joined-fits = omega (arith, ap length joined, front_fits form l (m + n) out fits within)

  pub rest-fits : a + length (lines_from form l m n) ≤ length out₁
  rest-fits = then-fits (lines_from form l m n) joined-fits p

  pub rest_put : {out₂ : List ℕ} {b : ℕ} → Puts (lines_from form l m n) a out₁ out₂ b → Puts (lines_from form l 0 (m + n)) 0 out out₂ b
  rest_put q = rw joined at (then-puts joined-fits p q)

-- ---- which line stands where

-- a decimal line, by what stands before its number
pub record DecimalAt (form : Form) (l : List ℕ) (i : ℕ) (key : List ℕ) : Type 0 where
  pub line : line_at form l i ≡ decimal_line key (get_or l i 0)
  pub number : Decimal l i

decimal-at : (form : Form) (l : List ℕ) (i : ℕ) (k : Key) (r : Range) → Decimal l i → field_of form (take i l) ≡ line k r → is_hex r ≡ false → DecimalAt form l i (prefix_of k)
unfolding line_at
decimal-at form l i k r d e x = record { line = rw (e, x); number = d }

-- the head lies in the list
pub head-in : (l : List ℕ) → length l ≡ network_size (network_sizes l) → head_size (get_or l 0 0) ≤ length l
head-in l s = omega (arith, s, head-there l, lines-in-head (get_or l 0 0), head_in l s)

module _ (l : List ℕ) (g : GoodNetwork l) where
  abbrev sizes : counts.Network
  sizes = network_sizes l

  -- the edition, and how many lines the head has
  abbrev edition : ℕ
  edition = get_or l 0 0

  pub sized : length l ≡ network_size sizes
  sized = g.ranges.sized.size

  long : head_size edition ≤ length l
  long = head-in l sized

  decimal : (i : ℕ) → i < length l → get_or l i 0 < 10000000000 → Decimal l i
  decimal i h small = record { within = h; few = omega (arith, short l g.ranges.sized, most-in-all); small = small }

  head-line : (i : ℕ) (k : Key) (r : Range) → i < head_size edition → get_or (network_lines edition) i None ≡ line k r → is_hex r ≡ false → get_or l i 0 < 10000000000
      → DecimalAt Network l i (prefix_of k)
  head-line i k r h e x small =
      let within : i < length l = omega (arith, long) in
      decimal-at Network l i k r (decimal i within small) (network-head-field l i (omega (arith, long)) (omega (arith, lines-in-head edition)) ∙ e) x

  pub net-line : DecimalAt Network l 0 (bytes "net=")
  net-line = head-line 0 _ _ (omega (arith, head-low edition)) refl refl (omega (arith, g.ranges.edition))

  pub scratch-line : DecimalAt Network l 1 (bytes "scratch=")
  scratch-line = head-line 1 _ _ (omega (arith, head-low edition)) refl refl (omega (arith, g.ranges.scratch))

  pub overrun-line : DecimalAt Network l 2 (bytes "overrun=")
  overrun-line = head-line 2 _ _ (omega (arith, head-low edition)) refl refl (⊎_elim (λ e. omega (arith, e)) (λ e. omega (arith, e)) g.ranges.overrun)

  pub unit-line : Whole Network l → has_held edition ≡ true → DecimalAt Network l 3 (bytes "unit=")
  unit-line w e =
      let t : T (allows (get_or (network_lines edition) 3 None) (get_or l 3 0)) = network-head-at l w.sound 3 (omega (arith, long, with-unit edition e)) (omega (arith, lines-in-head edition, with-unit edition e)) in
      head-line 3 key.Unit (Between 0 1) (omega (arith, head-low edition)) (rw e) refl (omega (arith, between 0 1 (get_or l 3 0) (rw e at t)))

  -- the lines of the counts, the last of the head
  of-count : (j i : ℕ) (k : Key) (r : Range) → j < length count_lines → i ≡ head_size edition - length count_lines + j → get_or count_lines j None ≡ line k r → is_hex r ≡ false
      → get_or l i 0 < 10000000000 → DecimalAt Network l i (prefix_of k)
  of-count j i k r h e line x small = head-line i k r (omega (arith, head-low edition)) (rw e (count-field edition j ∙ line)) x small

  pub links-line : (i : ℕ) → i ≡ head_size edition - 3 → DecimalAt Network l i (bytes "links=")
  unfolding network_sizes
  links-line i e = of-count 0 i _ _ (omega arith) (omega arith) refl refl (omega (arith, ap (λ (j : ℕ). get_or l j 0) e, g.ranges.sized.counts))

  pub flows-line : (i : ℕ) → i ≡ head_size edition - 3 + 1 → DecimalAt Network l i (bytes "flows=")
  unfolding network_sizes
  flows-line i e =
      let same : i ≡ head_size edition - 2 = omega (arith, head-low edition) in
      of-count 1 i _ _ (omega arith) (omega arith) refl refl (omega (arith, ap (λ (j : ℕ). get_or l j 0) same, g.ranges.sized.counts))

  pub tunnels-line : (i : ℕ) → i ≡ head_size edition - 3 + 2 → DecimalAt Network l i (bytes "tunnels=")
  unfolding network_sizes
  tunnels-line i e =
      let same : i ≡ head_size edition - 1 = omega (arith, head-low edition) in
      of-count 2 i _ _ (omega arith) (omega arith) refl refl (omega (arith, ap (λ (j : ℕ). get_or l j 0) same, g.ranges.sized.counts))

  -- the field at a number after the head
  body-field : (i j : ℕ) → i < length l → i ≡ j → link_at sizes 0 ≤ j → field_of Network (take i l) ≡ network_body sizes (get_or l (i - 1) 0) j
  body-field i j h e after = network-body-field l i (le_of_lt h) (omega (arith, head-there l)) ∙ ap (network_body sizes (get_or l (i - 1) 0)) e

  -- the lines of link k
  of-link : (k j i : ℕ) (key : Key) (r : Range) → k < sizes.links → j < per_link sizes.edition → i ≡ link_at sizes k + j
      → get_or (link_lines sizes.edition (get_or l (i - 1) 0)) j None ≡ line key r → is_hex r ≡ false → get_or l i 0 < 10000000000 → DecimalAt Network l i (prefix_of key)
  of-link k j i key r h below e line x small =
      let within : i < length l = omega (arith, link-in l sized k j h below) in
      decimal-at Network l i key r (decimal i within small)
      (body-field i (link_at sizes k + j) within e (omega (arith, link-after sizes k)) ∙ body-link sizes _ k j h below ∙ line) x

  pub cap-line : (k i : ℕ) → k < sizes.links → i ≡ link_at sizes k → DecimalAt Network l i (bytes "cap=")
  cap-line k i h e = of-link k 0 i _ _ h (link-some sizes.edition) (omega arith) refl refl (omega (arith, ap (λ (j : ℕ). get_or l j 0) e, g.ranges.links.cap k h))

  pub held-line : (k i : ℕ) → k < sizes.links → has_held sizes.edition ≡ true → i ≡ link_at sizes k + 1 → DecimalAt Network l i (bytes "held=")
  held-line k i h has e =
      of-link k 1 i key.Held (Between 0 (get_or l (i - 1) 0)) h (omega (arith, two-a-link sizes.edition has)) e (rw has) refl
      (omega (arith, ap (λ (j : ℕ). get_or l j 0) e, with-held l k has, g.ranges.links.held k h, g.ranges.links.cap k h))

  -- the lines of flow f, and those of tunnel t
  flow-within : (f j i : ℕ) → f < sizes.flows → j < per_flow sizes.edition → i ≡ flow_at sizes f + j → i < length l
  flow-within f j i h k e = omega (arith, flow-in l sized f j h k)

  flow-field : (f j i : ℕ) → f < sizes.flows → j < per_flow sizes.edition → i ≡ flow_at sizes f + j → field_of Network (take i l) ≡ get_or (flow_lines sizes.edition) j None
  flow-field f j i h k e = body-field i (flow_at sizes f + j) (flow-within f j i h k e) e (omega (arith, flow-after sizes f)) ∙ body-flow sizes _ f j h k

  tunnel-within : (t j i : ℕ) → t < sizes.tunnels → j < length (tunnel_lines sizes) → i ≡ tunnel_at sizes t + j → i < length l
  tunnel-within t j i h k e = omega (arith, tunnel-in l sized t h)

  tunnel-field : (t j i : ℕ) → t < sizes.tunnels → j < length (tunnel_lines sizes) → i ≡ tunnel_at sizes t + j → field_of Network (take i l) ≡ get_or (tunnel_lines sizes) j None
  tunnel-field t j i h k e = body-field i (tunnel_at sizes t + j) (tunnel-within t j i h k e) e (omega (arith, tunnel-after sizes t)) ∙ body-tunnel sizes _ t j h k

  of-flow : (f j i : ℕ) (k : Key) (r : Range) → f < sizes.flows → j < per_flow sizes.edition → i ≡ flow_at sizes f + j → get_or (flow_lines sizes.edition) j None ≡ line k r → is_hex r ≡ false
      → get_or l (flow_at sizes f + j) 0 < 10000000000 → DecimalAt Network l i (prefix_of k)
  of-flow f j i k r h below e line x small =
      decimal-at Network l i k r (decimal i (flow-within f j i h below e) (omega (arith, small, ap (λ (n : ℕ). get_or l n 0) e))) (flow-field f j i h below e ∙ line) x

  of-tunnel : (t j i : ℕ) (k : Key) (r : Range) → t < sizes.tunnels → j < length (tunnel_lines sizes) → i ≡ tunnel_at sizes t + j → get_or (tunnel_lines sizes) j None ≡ line k r → is_hex r ≡ false
      → get_or l (tunnel_at sizes t + j) 0 < 10000000000 → DecimalAt Network l i (prefix_of k)
  of-tunnel t j i k r h below e line x small =
      decimal-at Network l i k r (decimal i (tunnel-within t j i h below e) (omega (arith, small, ap (λ (n : ℕ). get_or l n 0) e))) (tunnel-field t j i h below e ∙ line) x

  first-of : (i : ℕ) → get_or l i 0 < 10000000000 → get_or l (i + 0) 0 < 10000000000
  first-of i h = let e : i + 0 ≡ i = omega arith in rw e h

  pub class-line : (f i : ℕ) → f < sizes.flows → i ≡ flow_at sizes f → DecimalAt Network l i (bytes "class=")
  class-line f i h e = of-flow f 0 i _ _ h (omega (arith, flow-some sizes.edition)) (omega arith) refl refl (first-of _ (omega (arith, g.ranges.flows.class f h)))

  pub rate-line : (f i : ℕ) → f < sizes.flows → i ≡ flow_at sizes f + 1 → DecimalAt Network l i (bytes "rate=")
  rate-line f i h e = of-flow f 1 i _ _ h (flow-some sizes.edition) e refl refl (omega (arith, g.ranges.flows.rate f h))

  pub next-line : (f i : ℕ) → f < sizes.flows → has_next sizes.edition ≡ true → i ≡ flow_at sizes f + 2 → DecimalAt Network l i (bytes "next=")
  next-line f i h has e =
      of-flow f 2 i key.Next (Between 0 most_amount) h (omega (arith, with-next sizes.edition has)) e (rw has) refl
      (omega (arith, ap (λ (j : ℕ). get_or l (flow_at sizes f + j) 0) (next-third sizes.edition has), g.ranges.flows.next f h))

  pub flow-line : (t i : ℕ) → t < sizes.tunnels → i ≡ tunnel_at sizes t → DecimalAt Network l i (bytes "flow=")
  flow-line t i h e = of-tunnel t 0 i _ _ h (omega arith) (omega arith) refl refl (first-of _ (omega (arith, g.ranges.tunnels.flow t h, g.ranges.sized.counts)))

  pub via-line : (t i : ℕ) → t < sizes.tunnels → i ≡ tunnel_at sizes t + 1 → line_at Network l i ≡ hex_line (bytes "via=") (get_or l i 0)
  unfolding line_at
  via-line t i h e = rw (tunnel-field t 1 i h (omega arith) e)

  pub old-line : (t i : ℕ) → t < sizes.tunnels → i ≡ tunnel_at sizes t + 2 → DecimalAt Network l i (bytes "old=")
  old-line t i h e = of-tunnel t 2 i _ _ h (omega arith) e refl refl (omega (arith, g.ranges.tunnels.old t h))

  pub new_line : (t i : ℕ) → t < sizes.tunnels → i ≡ tunnel_at sizes t + 3 → DecimalAt Network l i (bytes "new=")
  new_line t i h e = of-tunnel t 3 i _ _ h (omega arith) e refl refl (omega (arith, g.ranges.tunnels.new t h))

module _ (l : List ℕ) (g : GoodPlan l) where
  plan-decimal : (i : ℕ) → i < length l → get_or l i 0 < 10000000000 → Decimal l i
  plan-decimal i h small = record { within = h; few = omega (arith, short-plan l g); small = small }

  plan-head-line : (i : ℕ) (k : Key) (r : Range) → i < length plan_lines → get_or plan_lines i None ≡ line k r → is_hex r ≡ false → get_or l i 0 < 10000000000 → DecimalAt Plan l i (prefix_of k)
  plan-head-line i k r h e x small =
      let within : i < length l = omega (arith, g.size) in
      decimal-at Plan l i k r (plan-decimal i within small) (plan-head-field l i (le_of_lt within) h ∙ e) x

  pub plan-line : DecimalAt Plan l 0 (bytes "plan=")
  plan-line = plan-head-line 0 _ _ (omega arith) refl refl (omega (arith, g.edition))

  pub parts-line : DecimalAt Plan l 1 (bytes "parts=")
  parts-line = plan-head-line 1 _ _ (omega arith) refl refl (omega (arith, g.parts))

  pub steps-line : DecimalAt Plan l 2 (bytes "steps=")
  steps-line = plan-head-line 2 _ _ (omega arith) refl refl (omega (arith, g.steps))

  pub plan-tunnels-line : DecimalAt Plan l 3 (bytes "tunnels=")
  plan-tunnels-line = plan-head-line 3 _ _ (omega arith) refl refl (omega (arith, g.tunnels))

  pub at-line : (i : ℕ) → length plan_lines ≤ i → i < length l → DecimalAt Plan l i (bytes "at=")
  at-line i four h =
      let n : i < plan_size (plan_sizes l) = omega (arith, g.size) in
      decimal-at Plan l i _ _ (plan-decimal i h (omega (arith, g.amounts i (omega arith) h, g.parts))) (rw (lt-ltb i (plan_size (plan_sizes l)) n) at (plan-body-field l i (le_of_lt h) four)) refl

-- ---- the lines of any form, one by one

-- the line where a field stands, by what stands before its number
module _ (f : Field) (k : Key) (r : Range) (v : ℕ) (name : List ℕ) (hex : Bool) (e : f ≡ line k r) (named : name ≡ prefix_of k) (is : hex ≡ is_hex r) where
  pub set_line : hex ≡ true → line_of f v ≡ hex_line name v
  set_line x = let h : is_hex r ≡ true = sym is ∙ x in rw (e, h, named)

  pub number-line : hex ≡ false → line_of f v ≡ decimal_line name v
  number-line x = let h : is_hex r ≡ false = sym is ∙ x in rw (e, h, named)

  line-size : (b : Bool) → hex ≡ b → length (line_of f v) ≡ length name + cond b 16 (width_of v) + 1
  line-size b x = let h : is_hex r ≡ b = sym is ∙ x in rw (e, named, ← h) (line-length k r v)

  pub set-size : hex ≡ true → length (line_of f v) ≡ length name + 17
  set-size x = omega (arith, line-size true x)

  pub number_size : hex ≡ false → length (line_of f v) ≡ length name + width_of v + 1
  number_size x = line-size false x

-- the number at i of a sound list, where the field f stands
module _ (form : Form) (l : List ℕ) (i : ℕ) (h : i < length l) (s : Sound form l) (f : Field) (e : f ≡ field_of form (take i l)) where
  pub writable : Writable f (get_or l i 0)
  writable = record { small = λ k r x. short-value form l i h s k r (sym e ∙ x) }

  pub line-here : line_at form l i ≡ line_of f (get_or l i 0)
  unfolding line_at
  line-here = rw e

  pub length_more : length (lines_from form l 0 (i + 1)) ≡ length (lines_from form l 0 i) + length (line_of f (get_or l i 0))
  length_more =
      let here : line_at form l (0 + i) ≡ line_of f (get_or l i 0) = rw (zero-add i) line-here in
      ap length (lines_more form l 0 i ∙ ap (λ (t : List ℕ). lines_from form l 0 i ++ t) here) ∙ length-append (lines_from form l 0 i) _
