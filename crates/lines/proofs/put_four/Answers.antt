-- `lines::put_four` meets its contract.
use native.Mathlib.Omega.{arith}
use Rattle.lines.proofs.Writing.{digits-fit, digits-put}
use Rattle.lines.proofs.put_four.Goals as goal

pub put_two-requires : goal.put_two-requires
put_two-requires c = record {
  x_bound = omega arith;
  at_in_bounds = digits-fit 2 2 c.args.x c.requires.at_in_bounds c.put_two-next.ensures;
}

pub returns : goal.returns
returns c =
    digits-put 2 2 c.args.x c.requires.at_in_bounds c.put_two-next.ensures c.put_two.ensures
