-- `writers::write::put_link` meets its contract.
use Prim.Native.Nat.{ℕ, ◌+◌, ◌-◌, ◌<◌}
use mathlib.Core.Path.{◌≡◌, refl, sym, ap, ◌∙◌}
use mathlib.Core.Bool.{true}
use mathlib.Core.List.{List}
use native.Mathlib.Omega.{arith}
use lib.ListN.{length, get_or}
use Rattle.lists.specs.Lists.{network_sizes, link_at, per_link, has_held}
use Rattle.lists.specs.declared.Network as counts
use Rattle.lists.proofs.Positions.{LinkPlace, two-a-link, one-a-link, link-some}
use Rattle.lists.proofs.Numbers.{link-stands}
use Rattle.forms.specs.Bytes.{bytes}
use Rattle.forms.specs.declared.form.Form.TheVariants.{Network}
use Rattle.lines.specs.Puts.{Puts, decimal_line}
use Rattle.lengths.specs.Lines.{lines_from}
use Rattle.lengths.proofs.Runs.{DecimalAt, cap-line, held-line, no_lines, next_fits, next-put}
use Rattle.writers.proofs.Shown.{shown-in}
use Rattle.writers.proofs.write.put_link.Goals as goal
use Rattle.writers.proofs.write.put_link.Goals.{After-link_at-i, After-has_held}

module _ (c : After-link_at-i) where
  abbrev l : List ℕ
  l = c.args.network.now

  abbrev i : ℕ
  i = c.link_at-i.result

  place : LinkPlace l c.args.k i
  place = link-stands l l refl c.sizes-sizes.ensures.good _ c.sizes-sizes.ensures.sizes c.args.k i c.requires.link c.link_at-i.ensures

  within : i + (per_link (network_sizes l).edition - 1) < length c.numbers-list.result.now
  within = omega (arith, place.within, ap length c.numbers-list.ensures.numbers)

  cap : DecimalAt Network l i (bytes "cap=")
  cap = cap-line l c.sizes-sizes.ensures.good c.args.k i c.requires.link place.here

  held : has_held (network_sizes l).edition ≡ true → DecimalAt Network l (i + 1) (bytes "held=")
  held has = held-line l c.sizes-sizes.ensures.good c.args.k (i + 1) c.requires.link has (ap (λ (j : ℕ). j + 1) place.here)

  -- after the first of the lines
  with-cap : {out : List ℕ} {p : ℕ} → Puts (decimal_line (bytes "cap=") (get_or c.numbers-list.result.now i 0)) c.args.at c.args.out.now out p
      → Puts (lines_from Network l (link_at (network_sizes l) c.args.k) 1) c.args.at c.args.out.now out p
  with-cap =
      next-put Network _ _ _ c.requires.room 0 _ (link-some _) (omega (arith, place.here)) (shown-in Network l _ _ _ c.numbers-list.ensures.numbers cap) (no_lines Network _ _ _ _) 1 refl

has : (c : After-has_held) → c.has_held.result ≡ has_held (network_sizes c.args.network.now).edition
has c = c.has_held.ensures ∙ ap (λ (n : counts.Network). has_held n.edition) c.sizes-sizes.ensures.sizes

pub offset_bounds-list-i : goal.offset_bounds-list-i
offset_bounds-list-i c = omega (arith, (place ((goal.at.offset_bounds-list-i c).After-link_at-i)).few)

pub bounds-list-i : goal.bounds-list-i
bounds-list-i c = omega (arith, within ((goal.at.bounds-list-i c).After-link_at-i))

pub put_line-held-requires-clause-v_in_bounds : goal.put_line-held-requires-clause-v_in_bounds
put_line-held-requires-clause-v_in_bounds c =
    let p = (goal.at.put_line-held-requires-clause-v_in_bounds c).After-link_at-i in
    next_fits Network _ _ _ c.requires.room 0 _ (link-some _) (omega (arith, (place p).here)) (shown-in Network _ _ _ _ c.numbers-list.ensures.numbers (cap p)) (no_lines Network _ _ _ _)

pub overflow_add-i : goal.overflow_add-i
overflow_add-i c = omega (arith, (place ((goal.at.overflow_add-i c).After-link_at-i)).few)

pub offset_bounds-list-i-then-has_held : goal.offset_bounds-list-i-then-has_held
offset_bounds-list-i-then-has_held c =
    let p = goal.at.offset_bounds-list-i-then-has_held c in
    omega (arith, (place p.After-link_at-i).few, two-a-link _ (sym (has p.After-has_held) ∙ c.if-has_held.true))

pub bounds-list-i-then-has_held : goal.bounds-list-i-then-has_held
bounds-list-i-then-has_held c =
    let p = goal.at.bounds-list-i-then-has_held c in
    omega (arith, within p.After-link_at-i, two-a-link _ (sym (has p.After-has_held) ∙ c.if-has_held.true))

pub put_line-requires-clause-v_bound : goal.put_line-requires-clause-v_bound
put_line-requires-clause-v_bound c =
    let p = goal.at.put_line-requires-clause-v_bound c in
    rw c.numbers-list.ensures.numbers (held p.After-link_at-i (sym (has p.After-has_held) ∙ c.if-has_held.true)).number.small

pub put_line-requires-clause-v_in_bounds : goal.put_line-requires-clause-v_in_bounds
put_line-requires-clause-v_in_bounds c =
    let p = goal.at.put_line-requires-clause-v_in_bounds c in
    let h = sym (has p.After-has_held) ∙ c.if-has_held.true in
    let t = p.After-link_at-i in
    next_fits Network _ _ _ c.requires.room 1 _ (omega (arith, two-a-link _ h)) (omega (arith, (place t).here)) (shown-in Network _ _ _ _ c.numbers-list.ensures.numbers (held t h)) (with-cap t c.put_line-held.ensures)

pub returns-then-has_held : goal.returns-then-has_held
returns-then-has_held c =
    let p = goal.at.returns-then-has_held c in
    let h = sym (has p.After-has_held) ∙ c.if-has_held.true in
    let t = p.After-link_at-i in
    next-put Network _ _ _ c.requires.room 1 _ (omega (arith, two-a-link _ h)) (omega (arith, (place t).here)) (shown-in Network _ _ _ _ c.numbers-list.ensures.numbers (held t h)) (with-cap t c.put_line-held.ensures)
    _ (omega (arith, two-a-link _ h)) c.put_line.ensures

pub returns-else-has_held : goal.returns-else-has_held
returns-else-has_held c =
    let p = goal.at.returns-else-has_held c in
    rw (one-a-link _ (sym (has p.After-has_held) ∙ c.if-has_held.false)) (with-cap p.After-link_at-i c.put_line-held.ensures)
