-- `lines::put_medium` meets its contract.
use native.Mathlib.Omega.{arith}
use Rattle.lines.proofs.Digits.{width-split}
use Rattle.lines.proofs.Writing.{four-fit, four-put}
use Rattle.lines.proofs.put_medium.Goals as goal

pub returns-then-x-lt10000 : goal.returns-then-x-lt10000
returns-then-x-lt10000 c = c.put_short.ensures

pub put_short-next-requires : goal.put_short-next-requires
put_short-next-requires c = record {
  x_bound = omega arith;
  x_in_bounds = omega (arith, width-split c.args.x c.if-x-lt10000.false (omega arith), c.requires.x_in_bounds);
}

pub put_four-requires : goal.put_four-requires
put_four-requires c = record {
  x_bound = omega arith;
  at_in_bounds = four-fit c.args.x c.if-x-lt10000.false (omega arith) c.requires.x_in_bounds c.put_short-next.ensures;
}

pub returns : goal.returns
returns c =
    four-put c.args.x c.if-x-lt10000.false (omega arith) c.requires.x_in_bounds c.put_short-next.ensures c.put_four.ensures
