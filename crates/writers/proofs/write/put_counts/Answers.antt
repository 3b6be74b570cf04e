-- `writers::write::put_counts` meets its contract.
use Prim.Native.Nat.{ℕ}
use mathlib.Core.Path.{refl}
use mathlib.Core.List.{List}
use native.Mathlib.Omega.{arith}
use Rattle.forms.specs.Bytes.{bytes}
use Rattle.forms.specs.declared.form.Form.TheVariants.{Network}
use Rattle.lines.specs.Puts.{Puts, decimal_line}
use Rattle.lengths.specs.Lines.{lines_from}
use Rattle.lengths.proofs.Runs.{no_lines, next_fits, next-put}
use Rattle.writers.proofs.Shown.{counts-at, links-shown, flows-shown, tunnels-shown}
use Rattle.writers.proofs.write.put_counts.Goals as goal
use Rattle.writers.proofs.write.put_counts.Goals.{After-links, After-flows}

-- the first n of the lines are put
abbrev Written : List ℕ → ℕ → List ℕ → ℕ → List ℕ → ℕ → Type 0
Written l at old n out p = Puts (lines_from Network l (counts-at l) n) at old out p

-- the lines that are put, one after the other
with-links : (c : After-links) {out : List ℕ} {p : ℕ} → let a = c.args in Puts (decimal_line (bytes "links=") c.links.result) a.at a.out.now out p → Written a.network.now a.at a.out.now 1 out p
with-links c = next-put Network _ _ _ c.requires 0 _ (omega arith) (omega arith) (links-shown _ c.links.ensures.good _ c.links.ensures.count) (no_lines Network _ _ _ _) 1 refl

with-flows : (c : After-flows) {o : List ℕ} {q : ℕ} {out : List ℕ} {p : ℕ} → let a = c.args in
    Written a.network.now a.at a.out.now 1 o q → Puts (decimal_line (bytes "flows=") c.flows.result) q o out p → Written a.network.now a.at a.out.now 2 out p
with-flows c w = next-put Network _ _ _ c.requires 1 _ (omega arith) refl (flows-shown _ c.links.ensures.good _ c.flows.ensures.count) w 2 refl

pub put_line-flows-requires-clause-v_in_bounds : goal.put_line-flows-requires-clause-v_in_bounds
put_line-flows-requires-clause-v_in_bounds c = next_fits Network _ _ _ c.requires 0 _ (omega arith) (omega arith) (links-shown _ c.links.ensures.good _ c.links.ensures.count) (no_lines Network _ _ _ _)

pub put_line-tunnels-requires-clause-v_in_bounds : goal.put_line-tunnels-requires-clause-v_in_bounds
put_line-tunnels-requires-clause-v_in_bounds c =
    let p = goal.at.put_line-tunnels-requires-clause-v_in_bounds c in
    next_fits Network _ _ _ c.requires 1 _ (omega arith) refl (flows-shown _ c.links.ensures.good _ c.flows.ensures.count) (with-links p.After-links c.put_line-flows.ensures)

pub put_line-requires-clause-v_in_bounds : goal.put_line-requires-clause-v_in_bounds
put_line-requires-clause-v_in_bounds c =
    let p = goal.at.put_line-requires-clause-v_in_bounds c in
    next_fits Network _ _ _ c.requires 2 _ (omega arith) refl (tunnels-shown _ c.links.ensures.good _ c.tunnels.ensures.count)
    (with-flows p.After-flows (with-links p.After-links c.put_line-flows.ensures) c.put_line-tunnels.ensures)

pub returns : goal.returns
returns c =
    let p = goal.at.returns c in
    next-put Network _ _ _ c.requires 2 _ (omega arith) refl (tunnels-shown _ c.links.ensures.good _ c.tunnels.ensures.count)
    (with-flows p.After-flows (with-links p.After-links c.put_line-flows.ensures) c.put_line-tunnels.ensures) 3 refl c.put_line.ensures
