-- `forms::form::rules_body` meets its contract.
use Prim.Native.Nat.{ℕ, ◌-◌, ◌%◌}
use mathlib.Core.Path.{ap, ◌∙◌}
use lib.ListN.{get_or}
use borrow.Author.Tests.{lt-ltb, le-ltb}
use Rattle.lists.specs.Lists.{rule_at, tables_size}
use Rattle.forms.specs.Form.{rules_body, rule_lines}
use native.Mathlib.Omega.{arith}
use Rattle.std.specs.declared.option.Option.TheVariants.{None}
use Rattle.forms.proofs.form.rules_body.Goals as goal

pub returns-then-i-rules_at : goal.returns-then-i-rules_at
unfolding rules_body
returns-then-i-rules_at c = rw (lt-ltb c.args.i (rule_at c.args.sizes 0) (omega (arith, c.rule_at-rules_at.ensures))) c.line.ensures

pub returns-then-i-rule_at : goal.returns-then-i-rule_at
unfolding rules_body
returns-then-i-rule_at c = rw (le-ltb c.args.i (rule_at c.args.sizes 0) (omega (arith, c.rule_at-rules_at.ensures)), lt-ltb c.args.i (tables_size c.args.sizes) (omega (arith, c.rule_at.ensures)))
    (c.rule_group.ensures ∙ ap (λ (x : ℕ). get_or (rule_lines c.args.sizes) ((c.args.i - x) % 2) None) c.rule_at-rules_at.ensures)

pub returns : goal.returns
unfolding rules_body
returns c = rw (le-ltb c.args.i (rule_at c.args.sizes 0) (omega (arith, c.rule_at-rules_at.ensures)), le-ltb c.args.i (tables_size c.args.sizes) (omega (arith, c.rule_at.ensures)))
