-- `lines::put_decimal` meets its contract.
use native.Mathlib.Omega.{arith}
use Rattle.lines.proofs.Digits.{width-split}
use Rattle.lines.proofs.Writing.{four-fit, four-put}
use Rattle.lines.proofs.put_decimal.Goals as goal

pub returns-then-v-lt10000 : goal.returns-then-v-lt10000
returns-then-v-lt10000 c = c.put_short.ensures

pub put_medium-next-requires : goal.put_medium-next-requires
put_medium-next-requires c = record {
  x_bound = omega arith;
  x_in_bounds = omega (arith, width-split c.args.v c.if-v-lt10000.false (omega arith), c.requires.v_in_bounds);
}

pub put_four-requires : goal.put_four-requires
put_four-requires c = record {
  x_bound = omega arith;
  at_in_bounds = four-fit c.args.v c.if-v-lt10000.false (omega arith) c.requires.v_in_bounds c.put_medium-next.ensures;
}

pub returns : goal.returns
returns c =
    four-put c.args.v c.if-v-lt10000.false (omega arith) c.requires.v_in_bounds c.put_medium-next.ensures c.put_four.ensures
