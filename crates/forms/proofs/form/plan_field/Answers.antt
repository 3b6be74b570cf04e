-- `forms::form::plan_field` meets its contract.
use mathlib.Core.Path.{◌≡◌, ap, ◌∙◌}
use lib.ListN.{length}
use borrow.Author.Tests.{lt-ltb, le-ltb}
use Rattle.lists.specs.Lists.{plan_sizes, plan_size}
use Rattle.lists.specs.declared.PlanSizes.{PlanSizes}
use Rattle.forms.specs.Form.{field_of}
use Rattle.forms.proofs.Forms.{PlanHead, head-of-plan}
use native.Mathlib.Omega.{arith}
use Rattle.forms.proofs.form.plan_field.Goals as goal
use Rattle.forms.proofs.form.plan_field.Goals.{After-row_at, Else-i-lt-HEAD}

head : (c : Else-i-lt-HEAD) → PlanHead c.args.done.now
head c = head-of-plan _ c.requires c.if-i-lt-HEAD.false

size : (c : After-row_at) → c.row_at.result ≡ plan_size (plan_sizes c.args.done.now)
size c = c.row_at.ensures ∙ ap (λ (n : PlanSizes). plan_size n) c.of-sizes.ensures

pub returns-then-i-lt-HEAD : goal.returns-then-i-lt-HEAD
unfolding field_of
returns-then-i-lt-HEAD c = rw (lt-ltb _ _ c.if-i-lt-HEAD.true) c.plan_head.ensures

pub row_at-requires : goal.row_at-requires
row_at-requires c = let b = head ((goal.at.row_at-requires c).Else-i-lt-HEAD) in let e = c.of-sizes.ensures in (omega (arith, ap (λ (n : PlanSizes). n.steps) e, b.steps), omega (arith, ap (λ (n : PlanSizes). n.steps) e, b.steps), omega (arith, ap (λ (n : PlanSizes). n.tunnels) e, b.tunnels))

pub overflow_mul-high : goal.overflow_mul-high
overflow_mul-high c = omega (arith, ap (λ (n : PlanSizes). n.parts) c.of-sizes.ensures, (head ((goal.at.overflow_mul-high c).Else-i-lt-HEAD)).parts.1)

pub returns-then-i-row_at : goal.returns-then-i-row_at
unfolding field_of
returns-then-i-row_at c = rw (← ap (λ (n : PlanSizes). n.parts) c.of-sizes.ensures, le-ltb _ _ c.if-i-lt-HEAD.false, lt-ltb (length c.args.done.now) (plan_size (plan_sizes c.args.done.now)) (omega (arith, size ((goal.at.returns-then-i-row_at c).After-row_at), c.if-i-row_at.true))) c.line.ensures

pub returns : goal.returns
unfolding field_of
returns c = rw (le-ltb _ _ c.if-i-lt-HEAD.false, le-ltb (length c.args.done.now) (plan_size (plan_sizes c.args.done.now)) (omega (arith, size ((goal.at.returns c).After-row_at), c.if-i-row_at.false)))
