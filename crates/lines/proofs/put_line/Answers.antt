-- `lines::put_line` meets its contract.
use native.Mathlib.Omega.{arith}
use lib.ListN.{length-append}
use Rattle.lines.specs.Puts.{decimal_value}
use Rattle.lines.proofs.Writing.{then-fits, then-puts}
use Rattle.lines.proofs.put_line.Goals as goal

pub put-from-requires : goal.put-from-requires
put-from-requires c =
    omega (arith, c.requires.v_in_bounds, length-append c.args.key.now (decimal_value c.args.v))

pub put_value-requires : goal.put_value-requires
put_value-requires c = record {
  v_bound = c.requires.v_bound;
  v_in_bounds = then-fits (decimal_value c.args.v) c.requires.v_in_bounds c.put-from.ensures;
}

pub returns : goal.returns
returns c =
    then-puts c.requires.v_in_bounds c.put-from.ensures c.put_value.ensures
