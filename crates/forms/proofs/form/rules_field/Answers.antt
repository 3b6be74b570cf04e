-- `forms::form::rules_field` meets its contract.
use mathlib.Core.Path.{ap, ◌∙◌}
use borrow.Author.Tests.{lt-ltb, le-ltb}
use lib.ListN.{length}
use Rattle.lists.specs.declared.RuleTables.{RuleTables}
use Rattle.forms.specs.Form.{field_of, rules_body}
use Rattle.forms.proofs.Forms.{head-of-rules}
use native.Mathlib.Omega.{arith}
use Rattle.forms.proofs.form.rules_field.Goals as goal

pub returns-then-i-lt-HEAD : goal.returns-then-i-lt-HEAD
unfolding field_of
returns-then-i-lt-HEAD c = rw (lt-ltb _ _ c.if-i-lt-HEAD.true) c.rules_head.ensures

pub rules_body-requires : goal.rules_body-requires
rules_body-requires c = let b = head-of-rules _ c.requires c.if-i-lt-HEAD.false in (omega (arith, ap (λ (n : RuleTables). n.switches) c.of.ensures, b.switches), omega (arith, ap (λ (n : RuleTables). n.tunnels) c.of.ensures, b.tunnels))

pub returns : goal.returns
unfolding field_of
returns c = rw (le-ltb _ _ c.if-i-lt-HEAD.false) (c.rules_body.ensures ∙ ap (λ (n : RuleTables). rules_body n (length c.args.done.now)) c.of.ensures)
