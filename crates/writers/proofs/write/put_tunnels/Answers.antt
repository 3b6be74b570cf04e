-- `writers::write::put_tunnels` meets its contract.
use Prim.Native.Nat.{ℕ, ◌+◌, ◌*◌, ◌<◌, ◌≤◌}
use mathlib.Core.Path.{◌≡◌, refl}
use mathlib.Core.List.{List}
use native.Mathlib.Omega.{arith}
use lib.ListN.{length}
use Rattle.model.specs.Net.{Net}
use Rattle.lists.specs.Lists.{network_sizes, network_of, tunnel_at}
use Rattle.lists.specs.Good.{GoodNetwork}
use Rattle.lists.proofs.Positions.{tunnel-at}
use Rattle.forms.specs.Bytes.{bytes}
use Rattle.forms.specs.declared.form.Form.TheVariants.{Network}
use Rattle.lines.specs.Puts.{Puts, decimal_line, hex_line}
use Rattle.lengths.specs.Lines.{lines_from}
use Rattle.lengths.proofs.Runs.{no_lines, next_fits, next-put}
use Rattle.writers.proofs.Shown.{flow-shown, via-shown, old-shown, new-shown}
use Rattle.writers.proofs.write.put_tunnels.Goals as goal
use Rattle.writers.proofs.write.put_tunnels.Goals.{In-loop-t}

-- the first n of the lines of the tunnels are put
abbrev Written : List ℕ → ℕ → List ℕ → ℕ → List ℕ → ℕ → Type 0
Written l at old n out p = Puts (lines_from Network l (tunnel_at (network_sizes l) 0) n) at old out p

module _ (l : List ℕ) (g : GoodNetwork l) (at : ℕ) (old : List ℕ) (fits : at + length (lines_from Network l (tunnel_at (network_sizes l) 0) (4 * (network_sizes l).tunnels)) ≤ length old) (t : ℕ)
    (there : t < (network_sizes l).tunnels) where
  abbrev N : Net
  N = network_of l

  here : tunnel_at (network_sizes l) t ≡ tunnel_at (network_sizes l) 0 + 4 * t
  here = tunnel-at (network_sizes l) t

  -- after how many lines each of a tunnel's is put, and that there is room for it
  module _ {o : List ℕ} {q : ℕ} (v : ℕ) where
    flow-fits : Written l at old (4 * t) o q → v ≡ N.flow t → q + length (decimal_line (bytes "flow=") v) ≤ length o
    flow-fits w e = next_fits Network _ _ _ fits (4 * t) _ (omega (arith, there)) here (flow-shown l g v t there e) w

    flow-put : Written l at old (4 * t) o q → v ≡ N.flow t → {out : List ℕ} {p : ℕ} → Puts (decimal_line (bytes "flow=") v) q o out p → Written l at old (4 * t + 1) out p
    flow-put w e = next-put Network _ _ _ fits (4 * t) _ (omega (arith, there)) here (flow-shown l g v t there e) w _ refl

    via-fits : Written l at old (4 * t + 1) o q → v ≡ N.via t → q + length (hex_line (bytes "via=") v) ≤ length o
    via-fits w e = next_fits Network _ _ _ fits (4 * t + 1) _ (omega (arith, there)) (omega (arith, here)) (via-shown l g v t there e) w

    via-put : Written l at old (4 * t + 1) o q → v ≡ N.via t → {out : List ℕ} {p : ℕ} → Puts (hex_line (bytes "via=") v) q o out p → Written l at old (4 * t + 2) out p
    via-put w e = next-put Network _ _ _ fits (4 * t + 1) _ (omega (arith, there)) (omega (arith, here)) (via-shown l g v t there e) w _ (omega arith)

    old-fits : Written l at old (4 * t + 2) o q → v ≡ N.old t → q + length (decimal_line (bytes "old=") v) ≤ length o
    old-fits w e = next_fits Network _ _ _ fits (4 * t + 2) _ (omega (arith, there)) (omega (arith, here)) (old-shown l g v t there e) w

    old-put : Written l at old (4 * t + 2) o q → v ≡ N.old t → {out : List ℕ} {p : ℕ} → Puts (decimal_line (bytes "old=") v) q o out p → Written l at old (4 * t + 3) out p
    old-put w e = next-put Network _ _ _ fits (4 * t + 2) _ (omega (arith, there)) (omega (arith, here)) (old-shown l g v t there e) w _ (omega arith)

    new-fits : Written l at old (4 * t + 3) o q → v ≡ N.new t → q + length (decimal_line (bytes "new=") v) ≤ length o
    new-fits w e = next_fits Network _ _ _ fits (4 * t + 3) _ (omega (arith, there)) (omega (arith, here)) (new-shown l g v t there e) w

    new-put : Written l at old (4 * t + 3) o q → v ≡ N.new t → {out : List ℕ} {p : ℕ} → Puts (decimal_line (bytes "new=") v) q o out p → Written l at old (4 * (t + 1)) out p
    new-put w e = next-put Network _ _ _ fits (4 * t + 3) _ (omega (arith, there)) (omega (arith, here)) (new-shown l g v t there e) w _ (omega arith)

less : (c : In-loop-t) → c.loop-t.t < (network_sizes c.args.network.now).tunnels
less c = omega (arith, c.loop-t-test.true, c.tunnels-t-end.ensures.count)

pub loop-t-init : goal.loop-t-init
loop-t-init c = no_lines Network _ _ _ _

pub put_line-via-requires-clause-v_in_bounds : goal.put_line-via-requires-clause-v_in_bounds
put_line-via-requires-clause-v_in_bounds c =
    let g = c.tunnels-t-end.ensures.good in
    let h = less ((goal.at.put_line-via-requires-clause-v_in_bounds c).In-loop-t) in
    flow-fits _ g _ _ c.requires _ h _ c.loop-t.invariant c.flow.ensures.value

pub put_set_line-old-requires : goal.put_set_line-old-requires
put_set_line-old-requires c =
    let g = c.tunnels-t-end.ensures.good in
    let h = less ((goal.at.put_set_line-old-requires c).In-loop-t) in
    let one = flow-put _ g _ _ c.requires _ h _ c.loop-t.invariant c.flow.ensures.value c.put_line-via.ensures in
    via-fits _ g _ _ c.requires _ h _ one c.via.ensures.value

pub put_line-new-requires-clause-v_in_bounds : goal.put_line-new-requires-clause-v_in_bounds
put_line-new-requires-clause-v_in_bounds c =
    let g = c.tunnels-t-end.ensures.good in
    let h = less ((goal.at.put_line-new-requires-clause-v_in_bounds c).In-loop-t) in
    let one = flow-put _ g _ _ c.requires _ h _ c.loop-t.invariant c.flow.ensures.value c.put_line-via.ensures in
    let two = via-put _ g _ _ c.requires _ h _ one c.via.ensures.value c.put_set_line-old.ensures in
    old-fits _ g _ _ c.requires _ h _ two c.old.ensures.value

pub put_line-p-requires-clause-v_in_bounds : goal.put_line-p-requires-clause-v_in_bounds
put_line-p-requires-clause-v_in_bounds c =
    let g = c.tunnels-t-end.ensures.good in
    let h = less ((goal.at.put_line-p-requires-clause-v_in_bounds c).In-loop-t) in
    let one = flow-put _ g _ _ c.requires _ h _ c.loop-t.invariant c.flow.ensures.value c.put_line-via.ensures in
    let two = via-put _ g _ _ c.requires _ h _ one c.via.ensures.value c.put_set_line-old.ensures in
    let three = old-put _ g _ _ c.requires _ h _ two c.old.ensures.value c.put_line-new.ensures in
    new-fits _ g _ _ c.requires _ h _ three c.new_amount.ensures.value

pub loop-t-preserved : goal.loop-t-preserved
loop-t-preserved c =
    let g = c.tunnels-t-end.ensures.good in
    let h = less ((goal.at.loop-t-preserved c).In-loop-t) in
    let one = flow-put _ g _ _ c.requires _ h _ c.loop-t.invariant c.flow.ensures.value c.put_line-via.ensures in
    let two = via-put _ g _ _ c.requires _ h _ one c.via.ensures.value c.put_set_line-old.ensures in
    let three = old-put _ g _ _ c.requires _ h _ two c.old.ensures.value c.put_line-new.ensures in
    new-put _ g _ _ c.requires _ h _ three c.new_amount.ensures.value c.put_line-p.ensures
