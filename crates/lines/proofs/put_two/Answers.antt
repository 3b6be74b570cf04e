-- `lines::put_two` meets its contract.
use native.Mathlib.Omega.{arith}
use Rattle.lines.proofs.Writing.{digits-fit, digits-put}
use Rattle.lines.proofs.put_two.Goals as goal

pub put_digit-requires : goal.put_digit-requires
put_digit-requires c = record {
  x_bound = omega arith;
  at_in_bounds = digits-fit 1 1 c.args.x c.requires.at_in_bounds c.put_digit-next.ensures;
}

pub returns : goal.returns
returns c =
    digits-put 1 1 c.args.x c.requires.at_in_bounds c.put_digit-next.ensures c.put_digit.ensures
