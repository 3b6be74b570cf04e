-- `writers::write::put_flow` meets its contract.
use Prim.Native.Nat.{ℕ, ◌<◌}
use mathlib.Core.Path.{refl, sym, ap, ◌∙◌}
use mathlib.Core.List.{List}
use native.Mathlib.Omega.{arith}
use Rattle.lists.specs.Lists.{network_sizes, flow_at, per_flow, has_next}
use Rattle.lists.specs.declared.Network as counts
use Rattle.lists.proofs.Positions.{flow-some, with-next, without-next}
use Rattle.forms.specs.Bytes.{bytes}
use Rattle.forms.specs.declared.form.Form.TheVariants.{Network}
use Rattle.lines.specs.Puts.{Puts, decimal_line}
use Rattle.lengths.specs.Lines.{lines_from}
use Rattle.lengths.proofs.Runs.{no_lines, next_fits, next-put}
use Rattle.writers.proofs.Shown.{class-shown, rate-shown, next-shown}
use Rattle.writers.proofs.write.put_flow.Goals as goal
use Rattle.writers.proofs.write.put_flow.Goals.{After-class, After-rate}

-- the first n of the lines of flow f are put
abbrev Written : List ℕ → ℕ → ℕ → List ℕ → ℕ → List ℕ → ℕ → Type 0
Written l f at old n out p = Puts (lines_from Network l (flow_at (network_sizes l) f) n) at old out p

module _ (c : After-class) where
  abbrev l : List ℕ
  l = c.args.network.now

  some : 1 < per_flow (network_sizes l).edition
  some = flow-some _

  with-class : {out : List ℕ} {p : ℕ} → let a = c.args in Puts (decimal_line (bytes "class=") c.class.result) a.at a.out.now out p → Written l a.f a.at a.out.now 1 out p
  with-class = next-put Network _ _ _ c.requires.room 0 _ (omega (arith, some)) (omega arith) (class-shown _ c.sizes-sizes.ensures.good _ _ c.requires.flow c.class.ensures.value) (no_lines Network _ _ _ _) 1 refl

with-rate : (c : After-rate) {o : List ℕ} {q : ℕ} {out : List ℕ} {p : ℕ} → let a = c.args in
    Written a.network.now a.f a.at a.out.now 1 o q → Puts (decimal_line (bytes "rate=") c.rate.result) q o out p → Written a.network.now a.f a.at a.out.now 2 out p
with-rate c w = next-put Network _ _ _ c.requires.room 1 _ (flow-some _) refl (rate-shown _ c.sizes-sizes.ensures.good _ _ c.requires.flow c.rate.ensures.value) w 2 refl

pub put_line-rate-requires-clause-v_in_bounds : goal.put_line-rate-requires-clause-v_in_bounds
put_line-rate-requires-clause-v_in_bounds c =
    next_fits Network _ _ _ c.requires.room 0 _ (omega (arith, some c)) (omega arith) (class-shown _ c.sizes-sizes.ensures.good _ _ c.requires.flow c.class.ensures.value) (no_lines Network _ _ _ _)

pub put_line-next-requires-clause-v_in_bounds : goal.put_line-next-requires-clause-v_in_bounds
put_line-next-requires-clause-v_in_bounds c =
    let p = goal.at.put_line-next-requires-clause-v_in_bounds c in
    next_fits Network _ _ _ c.requires.room 1 _ (flow-some _) refl (rate-shown _ c.sizes-sizes.ensures.good _ _ c.requires.flow c.rate.ensures.value) (with-class p.After-class c.put_line-rate.ensures)

pub put_line-requires-clause-v_in_bounds : goal.put_line-requires-clause-v_in_bounds
put_line-requires-clause-v_in_bounds c =
    let p = goal.at.put_line-requires-clause-v_in_bounds c in
    let has = sym (c.has_next.ensures ∙ ap (λ (n : counts.Network). has_next n.edition) c.sizes-sizes.ensures.sizes) ∙ c.if-has_next.true in
    next_fits Network _ _ _ c.requires.room 2 _ (omega (arith, with-next _ has)) refl (next-shown _ c.sizes-sizes.ensures.good _ _ c.requires.flow has c.next.ensures.value)
    (with-rate p.After-rate (with-class p.After-class c.put_line-rate.ensures) c.put_line-next.ensures)

pub returns-then-has_next : goal.returns-then-has_next
returns-then-has_next c =
    let p = goal.at.returns-then-has_next c in
    let has = sym (c.has_next.ensures ∙ ap (λ (n : counts.Network). has_next n.edition) c.sizes-sizes.ensures.sizes) ∙ c.if-has_next.true in
    next-put Network _ _ _ c.requires.room 2 _ (omega (arith, with-next _ has)) refl (next-shown _ c.sizes-sizes.ensures.good _ _ c.requires.flow has c.next.ensures.value)
    (with-rate p.After-rate (with-class p.After-class c.put_line-rate.ensures) c.put_line-next.ensures) _ (omega (arith, with-next _ has)) c.put_line.ensures

pub returns-else-has_next : goal.returns-else-has_next
returns-else-has_next c =
    let p = goal.at.returns-else-has_next c in
    let has = sym (c.has_next.ensures ∙ ap (λ (n : counts.Network). has_next n.edition) c.sizes-sizes.ensures.sizes) ∙ c.if-has_next.false in
    rw (without-next _ has) (with-rate p.After-rate (with-class p.After-class c.put_line-rate.ensures) c.put_line-next.ensures)
