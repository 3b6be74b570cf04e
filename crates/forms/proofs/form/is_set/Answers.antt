-- `forms::form::is_set` meets its contract.
use Rattle.forms.proofs.Forms.{wide-set, shifted}
use borrow.Author.Tests.{ne_eqb}
use borrow.Author.Rules.{rules}
use Rattle.forms.proofs.form.is_set.Goals as goal

pub returns-then-n-ge64 : goal.returns-then-n-ge64
returns-then-n-ge64 c = rw (ne_eqb _ _ c.if-v-eq0.false, wide-set c.args.v c.args.n (search rules) c.if-n-ge64.true)

pub returns : goal.returns
returns c = rw (ne_eqb _ _ c.if-v-eq0.false) (shifted c.args.v c.args.n)
