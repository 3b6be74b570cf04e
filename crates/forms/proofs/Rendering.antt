-- Laws of rendering: the lines of a list from an index on, and how long they are.
use mathlib.Core.Path.{◌≡◌, sym, ap, ◌∙◌}
use mathlib.Core.Bool.{Bool, true, false, cond}
use mathlib.Core.List.{List, [], ◌∷◌, ◌++◌, append-nil, append_assoc}
use Prim.Native.Nat.{ℕ, zero, suc, ◌+◌, ◌*◌, ◌-◌, ◌^◌, ◌≤◌, ◌<◌}
use native.Mathlib.Decide.{dec_lt}
use native.Mathlib.Nat.{le_of_lt}
use native.Mathlib.Numerals.{add-one}
use native.Mathlib.Omega.{arith}
use lib.Dec.{T, ltb}
use lib.ListN.{length, get_or, take, drop, drop_of_length-le, length-append}
use lib.Seq.{append_snoc, take-suc, length-take-le}
use Rattle.model.specs.Limits.{most_amount}
use Rattle.lists.specs.Lists.{head_size, per_link, per_flow, link_at, flow_at, tunnel_at, plan_sizes, plan_size, most_network, most_plan, most_numbers, at}
use Rattle.forms.specs.Keys.{prefix_of}
use Rattle.forms.specs.Form.{Field, is_hex, line, field_of, allows, Sound, Whole, most_of}
use Rattle.forms.specs.Line.{most_in_remark, most_remarks}
use Rattle.forms.specs.Laws.{most_bytes}
use Rattle.forms.specs.Write.{digits_in, width_of, value_digits, line_of, render_from, render}
use Rattle.forms.specs.declared.form.Form.{Form}
use Rattle.forms.specs.declared.form.Form.TheVariants.{Network, Plan, Rules}
use Rattle.forms.specs.declared.form.Range.{Range}
use Rattle.forms.specs.declared.form.Range.TheVariants.{Between}
use Rattle.forms.proofs.Forms.{between, sound-take, sound-at, room, room-in-all, small, plan-body-field, head-of-plan}
use Rattle.forms.proofs.Keys.{key-length}
use Rattle.forms.proofs.Numbers.{length_digits, width-most, width-ten}
use Rattle.std.specs.declared.option.Option.TheVariants.{None, Some}
use Rattle.forms.specs.declared.form.Key.{Key}
use Rattle.forms.specs.declared.form.Key.TheVariants as key
use Rattle.forms.proofs.Walks.{step}

-- the lines of the numbers from i on
pub render-step : (form : Form) (l : List ℕ) (i : ℕ) → i < length l
    → render_from form (take i l) (drop i l) ≡ line_of (field_of form (take i l)) (get_or l i 0) ++ render_from form (take (i + 1) l) (drop (i + 1) l)
unfolding render_from
render-step form l i h = rw (step l i h, add-one, take-suc l i 0 h)

pub render-end : (form : Form) (done l : List ℕ) (i : ℕ) → length l ≤ i → render_from form done (drop i l) ≡ []
unfolding render_from
render-end form done l i h = rw (drop_of_length-le l h)

-- one number more, one line more
pub render-more : (form : Form) (d l : List ℕ) (v : ℕ) → render_from form d (l ++ (v ∷ [])) ≡ render_from form d l ++ line_of (field_of form (d ++ l)) v
unfolding render_from
render-more form d [] v = rw (append-nil, append-nil)
render-more form d (x ∷ l) v =
    rw (render-more form (d ++ (x ∷ [])) l v, append_snoc d x l) (sym (append_assoc (line_of (field_of form d) x) (render_from form (d ++ (x ∷ [])) l) _))

-- what a turn over a sound list knows at i
module _ (form : Form) (l : List ℕ) (i : ℕ) (h : i < length l) (s : Sound form l) where
  count : length (take i l) ≡ i
  count = length-take-le i l (le_of_lt h)

  within-form : i < most_of form
  within-form = rw count at (room form (take i l) (get_or l i 0) (sound-take form l i (le_of_lt h) s) (sound-at form l i h s))

  pub at_most : i < most_numbers
  at_most = rw count at (room-in-all form (take i l) (get_or l i 0) (sound-take form l i (le_of_lt h) s) (sound-at form l i h s))

  pub short-value : (k : Key) (r : Range) → field_of form (take i l) ≡ line k r → is_hex r ≡ false → get_or l i 0 < 10000000000
  short-value k r e x = small form (take i l) k r (get_or l i 0) (sound-take form l i (le_of_lt h) s) e (rw e at (sound-at form l i h s)) x

-- how many digits a value has
abbrev digit_count : Range → ℕ → ℕ
digit_count r v = cond (is_hex r) 16 (width_of v)

digits-length : (hex : Bool) (v : ℕ) → length (cond hex (digits_in 16 16 v) (digits_in 10 (width_of v) v)) ≡ cond hex 16 (width_of v)
digits-length true v = length_digits 16 16 v
digits-length false v = length_digits 10 (width_of v) v

pub line-length : (k : Key) (r : Range) (v : ℕ) → length (line_of (line k r) v) ≡ length (prefix_of k) + digit_count r v + 1
line-length k r v = rw (length-append (prefix_of k), length-append (value_digits r v), digits-length (is_hex r) v) (omega arith)

-- ---- how long what is written may be

-- a sound list's rendering is so short that 32 remarks, and two more, stand beside it within 65,536 bytes
abbrev pub most_plain : ℕ
most_plain = most_bytes - (most_remarks + 2) * (most_in_remark + 1)

-- a line has at most 27 bytes
pub line-short : (f : Field) (v : ℕ) → length (line_of f v) ≤ 27
line-short None v = omega arith
line-short (Some x) v = omega (arith, line-length x.key x.range v, key-length x.key, digits-few (is_hex x.range))
  where
    digits-few : (hex : Bool) → cond hex 16 (width_of v) ≤ 16
    digits-few true = omega arith
    digits-few false = omega (arith, width-ten v)

-- the lines from i on, of which the first is not longer than B
pub line-then : (form : Form) (l : List ℕ) (i B : ℕ) → i < length l → length (line_of (field_of form (take i l)) (get_or l i 0)) ≤ B
    → length (render_from form (take i l) (drop i l)) ≤ B + length (render_from form (take (i + 1) l) (drop (i + 1) l))
line-then form l i B h b =
    let n : length (render_from form (take i l) (drop i l)) ≡ length (line_of (field_of form (take i l)) (get_or l i 0)) + length (render_from form (take (i + 1) l) (drop (i + 1) l))
    = ap length (render-step form l i h) ∙ length-append (line_of (field_of form (take i l)) (get_or l i 0)) _ in
    omega (arith, b)

-- or none of them is
lines-within : (form : Form) (l : List ℕ) (B k i : ℕ) → length l ≡ i + k
    → ((j : ℕ) → i ≤ j → j < length l → length (line_of (field_of form (take j l)) (get_or l j 0)) ≤ B)
    → length (render_from form (take i l) (drop i l)) ≤ k * B
lines-within form l B zero i e f = rw (render-end form (take i l) l i (omega arith)) (omega arith)
lines-within form l B (suc k) i e f =
    let h : i < length l = omega arith in
    let r = lines-within form l B k (i + 1) (omega arith) (λ j a b. f j (omega arith) b) in
    omega (arith, line-then form l i B h (f i (omega arith) h))

module _ (form : Form) (l : List ℕ) where
  any-lines : length (render_from form [] l) ≤ length l * 27
  any-lines = lines-within form l 27 (length l) 0 (omega arith) (λ j a b. line-short (field_of form (take j l)) (get_or l j 0))

  one_line : (i : ℕ) → i < length l → length (render_from form (take i l) (drop i l)) ≤ 27 + length (render_from form (take (i + 1) l) (drop (i + 1) l))
  one_line i h = line-then form l i 27 h (line-short (field_of form (take i l)) (get_or l i 0))

sound-length : (form : Form) (l : List ℕ) → Sound form l → length l ≤ most_of form
sound-length form l s = go (dec_lt (most_of form) (length l))
  where
    go : Dec (most_of form < length l) → length l ≤ most_of form
    go (yes h) = absurd (omega (arith, within-form form l (most_of form) h s))
    go (no h) = omega arith

-- and an `at` line at most 13
module _ (l : List ℕ) (s : Sound Plan l) where
  at-line : (j : ℕ) → 4 ≤ j → j < length l → length (line_of (field_of Plan (take j l)) (get_or l j 0)) ≤ 13
  at-line j four h =
      let e = plan-body-field l j (le_of_lt h) four in
      rw e (go (ltb j (plan_size (plan_sizes l))) (rw e at (sound-at Plan l j h s)))
    where
      go : (b : Bool) → T (allows (cond b (line key.At (Between 0 (most_amount * at l 1))) None) (get_or l j 0))
          → length (line_of (cond b (line key.At (Between 0 (most_amount * at l 1))) None) (get_or l j 0)) ≤ 13
      go true t =
          let v : get_or l j 0 < 10 ^ 9 = omega (arith, (between 0 (most_amount * at l 1) (get_or l j 0) t).1, (head-of-plan l s (omega arith)).parts.1) in
          omega (arith, line-length key.At (Between 0 (most_amount * at l 1)) (get_or l j 0), width-most (get_or l j 0) 9 (omega arith) (omega arith) v)
      go false t = absurd t

  plan-short : length (render Plan l) ≤ most_plain
  unfolding render
  plan-short = go (dec_lt (length l) 4)
    where
      go : Dec (length l < 4) → length (render_from Plan [] l) ≤ most_plain
      go (yes h) = omega (arith, any-lines Plan l)
      go (no h) =
          let k : length l ≤ most_plan = sound-length Plan l s in
          let r : length (render_from Plan (take 4 l) (drop 4 l)) ≤ (length l - 4) * 13 = lines-within Plan l 13 (length l - 4) 4 (omega arith) at-line in
          let line = one_line Plan l in
          omega (arith, line 0 (omega arith), line 1 (omega arith), line 2 (omega arith), line 3 (omega arith))

-- the other forms have few lines
few-lines : (form : Form) (l : List ℕ) → most_of form * 27 ≤ most_plain → Sound form l → length (render form l) ≤ most_plain
unfolding render
few-lines form l h s = omega (arith, sound-length form l s, any-lines form l)

few-numbers : most_network * 27 ≤ most_plain
unfolding most_network head_size per_link per_flow link_at flow_at tunnel_at
few-numbers = omega arith

pub render-plain : (form : Form) (l : List ℕ) → Sound form l → length (render form l) ≤ most_plain
render-plain Network l s = few-lines Network l few-numbers s
render-plain Plan l s = plan-short l s
render-plain Rules l s = few-lines Rules l (omega arith) s

pub render-short : (form : Form) (l : List ℕ) → Whole form l → length (render form l) ≤ most_bytes
render-short form l w = omega (arith, render-plain form l w.sound)
