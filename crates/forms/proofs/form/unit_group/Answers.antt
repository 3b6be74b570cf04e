-- `forms::form::unit_group` meets its contract.
use Prim.Native.Nat.{suc, ◌-◌}
use mathlib.Core.Path.{◌≡◌}
use mathlib.Core.Bool.{true}
use borrow.Author.Tests.{le-leb}
use Rattle.lists.specs.Lists.{has_held}
use native.Mathlib.Omega.{arith}
use Rattle.forms.proofs.form.unit_group.Goals as goal

pub returns-in_default : goal.returns-in_default
returns-in_default c =
    let late : has_held c.args.edition ≡ true = le-leb 3 c.args.edition c.if-edition-lt-HELD_SINCE.false in
    let k : c.args.n ≡ suc (c.args.n - 1) = omega arith in
    rw (k, late) c.count_group-in_default.ensures
