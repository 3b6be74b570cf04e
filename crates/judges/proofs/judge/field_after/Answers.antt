-- `judges::judge::field_after` meets its contract.
use mathlib.Core.Path.{sym, ◌∙◌}
use borrow.Author.Tests.{ltb-true, ltb-false}
use lib.ListN.{length}
use Rattle.lists.specs.Lists.{at}
use Rattle.forms.specs.Form.{field_of, network_lines}
use Rattle.forms.proofs.Forms.{head-there}
use native.Mathlib.Omega.{arith}
use Rattle.judges.proofs.judge.field_after.Goals as goal

pub network_head_field-requires : goal.network_head_field-requires
network_head_field-requires c = ltb-true _ _ (sym c.in_network_head.ensures ∙ c.if-in_network_head.true)

pub of-requires : goal.of-requires
of-requires c =
    let l = c.args.done.now in
    omega (arith, head-there l, ltb-false (length l) (length (network_lines (at l 0))) (sym c.in_network_head.ensures ∙ c.if-in_network_head.false))

pub network_body_field-requires : goal.network_body_field-requires
network_body_field-requires c = (rw c.in-Network.is at c.requires, ltb-false _ _ (sym c.in_network_head.ensures ∙ c.if-in_network_head.false), c.of.ensures)

pub plan_field-requires : goal.plan_field-requires
plan_field-requires c = rw c.in-Plan.is at c.requires

pub rules_field-requires : goal.rules_field-requires
rules_field-requires c = rw c.in-Rules.is at c.requires

pub returns-then-in_network_head : goal.returns-then-in_network_head
unfolding field_of
returns-then-in_network_head c = rw c.in-Network.is c.network_head_field.ensures

pub returns-else-in_network_head : goal.returns-else-in_network_head
unfolding field_of
returns-else-in_network_head c = rw c.in-Network.is c.network_body_field.ensures

pub returns-in-Plan : goal.returns-in-Plan
unfolding field_of
returns-in-Plan c = rw c.in-Plan.is c.plan_field.ensures

pub returns-in-Rules : goal.returns-in-Rules
unfolding field_of
returns-in-Rules c = rw c.in-Rules.is c.rules_field.ensures
