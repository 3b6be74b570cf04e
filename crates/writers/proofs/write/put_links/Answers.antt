-- `writers::write::put_links` meets its contract.
use Prim.Native.Nat.{ℕ, ◌≤◌, ◌+◌, ◌*◌, ◌<◌}
use mathlib.Core.Path.{◌≡◌}
use native.Mathlib.Nat.{mul-le-mul_left}
use native.Mathlib.Omega.{arith}
use Rattle.lists.specs.Lists.{per_link, network_sizes}
use Rattle.lists.proofs.Positions.{link-at}
use Rattle.forms.specs.declared.form.Form.TheVariants.{Network}
use Rattle.lengths.proofs.Runs.{no_lines, run_fits, run-put}
use Rattle.writers.proofs.write.put_links.Goals as goal
use Rattle.writers.proofs.write.put_links.Goals.{In-loop-k}

-- in a turn: how many lines one has, and that there is room for one more
module _ (c : In-loop-k) where
  abbrev per : ℕ
  per = per_link (network_sizes c.args.network.now).edition

  there : c.loop-k.k < (network_sizes c.args.network.now).links
  there = omega (arith, c.links-k-end.ensures.count, c.loop-k-test.true)

  within : per * c.loop-k.k + per ≤ per * (network_sizes c.args.network.now).links
  within = omega (arith, mul-le-mul_left per there)

pub loop-k-init : goal.loop-k-init
loop-k-init c = let e : per_link (network_sizes c.args.network.now).edition * 0 ≡ 0 = omega arith in rw e (no_lines Network _ _ _ _)

pub put_link-p-requires-clause-room : goal.put_link-p-requires-clause-room
put_link-p-requires-clause-room c = let p = (goal.at.put_link-p-requires-clause-room c).In-loop-k in run_fits Network _ _ _ c.requires (per p * c.loop-k.k) (per p) _ (within p) (link-at _ _) c.loop-k.invariant

pub loop-k-preserved : goal.loop-k-preserved
loop-k-preserved c = let p = (goal.at.loop-k-preserved c).In-loop-k in run-put Network _ _ _ c.requires (per p * c.loop-k.k) (per p) _ (within p) (link-at _ _) c.loop-k.invariant _ (omega arith) c.put_link-p.ensures
