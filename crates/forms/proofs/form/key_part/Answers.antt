-- `forms::form::key_part` meets its contract.
use Prim.Native.Nat.{◌≤◌}
use mathlib.Core.Path.{sym, ap}
use native.Mathlib.Omega.{arith}
use lib.ListN.{get_or-eq_default}
use Rattle.forms.specs.Bytes.{bytes}
use Rattle.forms.specs.Numbered.{keys}
use Rattle.forms.proofs.form.key_part.Goals as goal

pub returns-in_default : goal.returns-in_default
returns-in_default c = let past : 25 ≤ c.args.key = omega (arith, c.in_default) in ap bytes (sym (get_or-eq_default keys "" past))
