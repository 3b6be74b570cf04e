-- `writers::write::put_flows` meets its contract.
use Prim.Native.Nat.{ℕ, ◌≤◌, ◌+◌, ◌*◌, ◌<◌}
use mathlib.Core.Path.{◌≡◌}
use native.Mathlib.Nat.{mul-le-mul_left}
use native.Mathlib.Omega.{arith}
use Rattle.lists.specs.Lists.{per_flow, network_sizes}
use Rattle.lists.proofs.Positions.{flow-at}
use Rattle.forms.specs.declared.form.Form.TheVariants.{Network}
use Rattle.lengths.proofs.Runs.{no_lines, run_fits, run-put}
use Rattle.writers.proofs.write.put_flows.Goals as goal
use Rattle.writers.proofs.write.put_flows.Goals.{In-loop-f}

-- in a turn: how many lines one has, and that there is room for one more
module _ (c : In-loop-f) where
  abbrev per : ℕ
  per = per_flow (network_sizes c.args.network.now).edition

  there : c.loop-f.f < (network_sizes c.args.network.now).flows
  there = omega (arith, c.flows-f-end.ensures.count, c.loop-f-test.true)

  within : per * c.loop-f.f + per ≤ per * (network_sizes c.args.network.now).flows
  within = omega (arith, mul-le-mul_left per there)

pub loop-f-init : goal.loop-f-init
loop-f-init c = let e : per_flow (network_sizes c.args.network.now).edition * 0 ≡ 0 = omega arith in rw e (no_lines Network _ _ _ _)

pub put_flow-p-requires-clause-room : goal.put_flow-p-requires-clause-room
put_flow-p-requires-clause-room c = let p = (goal.at.put_flow-p-requires-clause-room c).In-loop-f in run_fits Network _ _ _ c.requires (per p * c.loop-f.f) (per p) _ (within p) (flow-at _ _) c.loop-f.invariant

pub loop-f-preserved : goal.loop-f-preserved
loop-f-preserved c = let p = (goal.at.loop-f-preserved c).In-loop-f in run-put Network _ _ _ c.requires (per p * c.loop-f.f) (per p) _ (within p) (flow-at _ _) c.loop-f.invariant _ (omega arith) c.put_flow-p.ensures
