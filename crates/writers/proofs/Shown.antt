-- The lines of a network by what the code has of it.
use mathlib.Core.Path.{◌≡◌, refl, sym, ap, ◌∙◌}
use mathlib.Core.Bool.{true}
use mathlib.Core.List.{List}
use Prim.Native.Nat.{ℕ, ◌+◌, ◌-◌, ◌≤◌, ◌<◌}
use native.Mathlib.Nat.{zero-add}
use native.Mathlib.Omega.{arith}
use lib.ListN.{length, get_or}
use Rattle.lists.specs.Lists.{has_next, head_size, network_sizes, network_of, flow_at, tunnel_at}
use Rattle.lists.specs.Good.{GoodNetwork}
use Rattle.lists.specs.declared.Network as counts
use Rattle.lists.proofs.Positions.{head-low, next-third}
use Rattle.forms.specs.Bytes.{bytes}
use Rattle.forms.specs.Form.{count_lines}
use Rattle.forms.specs.declared.form.Form.{Form}
use Rattle.forms.specs.declared.form.Form.TheVariants.{Network}
use Rattle.lines.specs.Puts.{Puts, decimal_line, hex_line}
use Rattle.lengths.specs.Lines.{line_at, lines_from}
use Rattle.lengths.proofs.Runs.{DecimalAt, links-line, flows-line, tunnels-line, class-line, rate-line, next-line, flow-line, via-line, old-line, new_line, next_fits, next-put}

-- a decimal line, where its number is known by another name
pub shown : (form : Form) (l : List ℕ) (i : ℕ) (key : List ℕ) (v : ℕ) → DecimalAt form l i key → v ≡ get_or l i 0 → line_at form l i ≡ decimal_line key v
shown form l i key v d e = d.line ∙ ap (decimal_line key) (sym e)

-- where the lines of the counts begin
abbrev pub counts-at : List ℕ → ℕ
counts-at l = head_size (get_or l 0 0) - length count_lines

-- the lines by what the network says
module _ (l : List ℕ) (g : GoodNetwork l) (v : ℕ) where
  abbrev sizes : counts.Network
  sizes = network_sizes l

  pub links-shown : v ≡ sizes.links → line_at Network l (counts-at l) ≡ decimal_line (bytes "links=") v
  unfolding network_sizes
  links-shown e = shown Network l _ _ v (links-line l g (counts-at l) refl) e

  pub flows-shown : v ≡ sizes.flows → line_at Network l (counts-at l + 1) ≡ decimal_line (bytes "flows=") v
  unfolding network_sizes
  flows-shown e =
      let same : head_size (get_or l 0 0) - 2 ≡ counts-at l + 1 = omega (arith, head-low (get_or l 0 0)) in
      shown Network l _ _ v (flows-line l g (counts-at l + 1) refl) (e ∙ ap (λ (i : ℕ). get_or l i 0) same)

  pub tunnels-shown : v ≡ sizes.tunnels → line_at Network l (counts-at l + 2) ≡ decimal_line (bytes "tunnels=") v
  unfolding network_sizes
  tunnels-shown e =
      let same : head_size (get_or l 0 0) - 1 ≡ counts-at l + 2 = omega (arith, head-low (get_or l 0 0)) in
      shown Network l _ _ v (tunnels-line l g (counts-at l + 2) refl) (e ∙ ap (λ (i : ℕ). get_or l i 0) same)

  module _ (f : ℕ) (h : f < sizes.flows) where
    pub class-shown : v ≡ (network_of l).class f → line_at Network l (flow_at sizes f) ≡ decimal_line (bytes "class=") v
    unfolding network_of
    class-shown e = shown Network l _ _ v (class-line l g f _ h refl) e

    pub rate-shown : v ≡ (network_of l).rate f → line_at Network l (flow_at sizes f + 1) ≡ decimal_line (bytes "rate=") v
    unfolding network_of
    rate-shown e = shown Network l _ _ v (rate-line l g f _ h refl) e

    pub next-shown : has_next sizes.edition ≡ true → v ≡ (network_of l).next f → line_at Network l (flow_at sizes f + 2) ≡ decimal_line (bytes "next=") v
    unfolding network_of
    next-shown has e = shown Network l _ _ v (next-line l g f _ h has refl) (e ∙ ap (λ (j : ℕ). get_or l (flow_at sizes f + j) 0) (next-third sizes.edition has))

  module _ (t : ℕ) (h : t < sizes.tunnels) where
    pub flow-shown : v ≡ (network_of l).flow t → line_at Network l (tunnel_at sizes t) ≡ decimal_line (bytes "flow=") v
    unfolding network_of
    flow-shown e = shown Network l _ _ v (flow-line l g t _ h refl) e

    pub via-shown : v ≡ (network_of l).via t → line_at Network l (tunnel_at sizes t + 1) ≡ hex_line (bytes "via=") v
    unfolding network_of
    via-shown e = via-line l g t _ h refl ∙ ap (hex_line (bytes "via=")) (sym e)

    pub old-shown : v ≡ (network_of l).old t → line_at Network l (tunnel_at sizes t + 2) ≡ decimal_line (bytes "old=") v
    unfolding network_of
    old-shown e = shown Network l _ _ v (old-line l g t _ h refl) e

    pub new-shown : v ≡ (network_of l).new t → line_at Network l (tunnel_at sizes t + 3) ≡ decimal_line (bytes "new=") v
    unfolding network_of
    new-shown e = shown Network l _ _ v (new_line l g t _ h refl) e

-- the number is read from a list that is the same
pub shown-in : (form : Form) (l k : List ℕ) (i : ℕ) (key : List ℕ) → k ≡ l → DecimalAt form l i key → line_at form l i ≡ decimal_line key (get_or k i 0)
shown-in form l k i key e d = shown form l i key _ d (ap (λ (m : List ℕ). get_or m i 0) e)

-- the first n lines are written from the front on, and the next of them is decimal
module _ (form : Form) (l : List ℕ) (n : ℕ) {out : List ℕ} (fits : length (lines_from form l 0 n) ≤ length out) {k : List ℕ} (same : k ≡ l) (m : ℕ) (less : m < n) {key : List ℕ}
    (d : DecimalAt form l m key) {out₁ : List ℕ} {a : ℕ} (p : Puts (lines_from form l 0 m) 0 out out₁ a) where
  room : 0 + length (lines_from form l 0 n) ≤ length out
  room = omega arith

  pub head-fits : a + length (decimal_line key (get_or k m 0)) ≤ length out₁
  head-fits = next_fits form l 0 n room m m less (sym (zero-add m)) (shown-in form l k m key same d) p

  pub head-next : {out₂ : List ℕ} {b : ℕ} → Puts (decimal_line key (get_or k m 0)) a out₁ out₂ b → Puts (lines_from form l 0 (m + 1)) 0 out out₂ b
  head-next q = next-put form l 0 n room m m less (sym (zero-add m)) (shown-in form l k m key same d) p (m + 1) refl q
