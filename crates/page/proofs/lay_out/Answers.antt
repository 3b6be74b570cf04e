-- `page::lay_out` meets its contract: each return is a case of the definition.
use Prim.Native.Nat.{◌+◌, ◌*◌, ◌-◌, ◌≤◌, ◌<◌}
use mathlib.Core.Path.{◌≡◌}
use mathlib.Core.Logic.{◌⊎◌, inl, inr}
use lib.ListN.{length}
use native.Mathlib.Omega.{arith}
use Rattle.lists.specs.Lists.{network_of, plan_of}
use Rattle.fields.specs.Columns.{line_size}
use Rattle.page.specs.Page.{page}
use Rattle.page.proofs.Pages.{page-length}
use Rattle.page.proofs.Answers.{none-given, short-given, all-given}
use Rattle.page.proofs.lay_out.Goals as goal
use Rattle.page.proofs.lay_out.Goals.{then-step-lt1-via-then-step-lt1, then-step-lt1-via-else-step-lt1+then-steps-step, After-tunnels}

-- the step is one of the plan, and its page is as long as is tested
module _ (c : After-tunnels) where
  low : 1 ≤ c.args.step
  low = c.if-step-lt1.false

  high : c.args.step ≤ (plan_of c.args.pair.now.plan).steps
  high =
      let s = rw c.plan.ensures.value at c.steps-steps.ensures.value in
      let h : c.args.step ≤ c.steps-steps.result = c.if-steps-step.false in
      omega (arith, h, s)

  size : length (page (network_of c.args.pair.now.network) (plan_of c.args.pair.now.plan) (c.args.step - 1)) ≡ line_size * (2 + c.links.result + c.tunnels.result)
  unfolding plan_of
  size =
      let l = rw c.network-network.ensures.value at c.links.ensures.count in
      let t = rw c.network-network.ensures.value at c.tunnels.ensures.count in
      omega (arith, page-length _ _ c.requires (c.args.step - 1) (omega (arith, low, high)), l, t)

pub returns-then-step-lt1 : goal.returns-then-step-lt1
returns-then-step-lt1 c =
    let a = c.args in
    let s = rw c.plan.ensures.value at c.steps-steps.ensures.value in
    let outside : (a.step < 1) ⊎ ((plan_of a.pair.now.plan).steps < a.step) =
    elim c.then-step-lt1.branch [
      | then-step-lt1-via-then-step-lt1 w ↦ inl w.if-step-lt1.true
      | then-step-lt1-via-else-step-lt1+then-steps-step w ↦ inr (omega (arith, w.if-steps-step.true, s))
    ] in
    let g = none-given (network_of a.pair.now.network) (plan_of a.pair.now.plan) a.step a.out.now outside in
    record { value = g.0; out_after = g.1 }

pub returns-then-out-needed : goal.returns-then-out-needed
returns-then-out-needed c =
    let k = (goal.at.returns-then-out-needed c).After-tunnels in
    let g = short-given (network_of c.args.pair.now.network) (plan_of c.args.pair.now.plan) c.args.step c.args.out.now (low k) (high k) _ (size k) c.if-out-needed.true in
    record { value = rw c.no_room.ensures g.0; out_after = g.1 }

pub returns : goal.returns
returns c =
    let k = (goal.at.returns c).After-tunnels in
    let g = all-given (network_of c.args.pair.now.network) (plan_of c.args.pair.now.plan) c.args.step c.args.out.now (low k) (high k) (omega (arith, size k, c.if-out-needed.false)) c.put_page.ensures in
    record { value = g.0; out_after = g.1 }
