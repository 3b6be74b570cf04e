-- `lines::put_value` meets its contract.
use Prim.Native.Nat.{◌<◌}
use mathlib.Core.List.{[], ◌∷◌}
use native.Mathlib.Omega.{arith}
use lib.ListN.{length, length-append}
use Rattle.forms.specs.Write.{digits_in, width_of}
use Rattle.forms.proofs.Numbers.{length_digits}
use Rattle.lines.proofs.Writing.{puts-byte, then-fits, then-puts}
use Rattle.lines.proofs.put_value.Goals as goal
use Rattle.lines.proofs.put_value.Goals.{After-put_decimal-end}

-- there is room for the line feed
fits : (p : After-put_decimal-end) → p.put_decimal-end.result < length p.put_decimal-end.new.out
fits p = omega (arith, then-fits (10 ∷ []) p.requires.v_in_bounds p.put_decimal-end.ensures)

pub put_decimal-end-requires : goal.put_decimal-end-requires
put_decimal-end-requires c = let d = digits_in 10 (width_of c.args.v) c.args.v in record {
  v_bound = c.requires.v_bound;
  v_in_bounds = omega (arith, c.requires.v_in_bounds, length-append d (10 ∷ []), length_digits 10 (width_of c.args.v) c.args.v);
}

pub bounds-out-end : goal.bounds-out-end
bounds-out-end c = fits ((goal.at.bounds-out-end c).After-put_decimal-end)

pub overflow_add-result : goal.overflow_add-result
overflow_add-result c = omega (arith, fits ((goal.at.overflow_add-result c).After-put_decimal-end))

pub returns : goal.returns
returns c =
    then-puts c.requires.v_in_bounds c.put_decimal-end.ensures (puts-byte c.put_decimal-end.new.out c.put_decimal-end.result 10 (fits ((goal.at.returns c).After-put_decimal-end)))
