-- `lines::put_short` meets its contract.
use mathlib.Core.Path.{◌≡◌, refl}
use mathlib.Core.Logic.{inl, inr}
use native.Mathlib.Omega.{arith}
use Rattle.forms.specs.Write.{width_of}
use Rattle.forms.proofs.Numbers.{width_is}
use Rattle.lines.proofs.Writing.{digits-fit, digits-put}
use Rattle.lines.proofs.put_short.Goals as goal
use Rattle.lines.proofs.put_short.Goals.{Else-x-lt1000, Then-x-lt10, Then-x-lt100, Then-x-lt1000}

one : (c : Then-x-lt10) → width_of c.args.x ≡ 1
one c = width_is _ 1 (omega arith) (omega arith) c.if-x-lt10.true (inl refl)

two : (c : Then-x-lt100) → width_of c.args.x ≡ 2
two c = width_is _ 2 (omega arith) (omega arith) c.if-x-lt100.true (inr c.if-x-lt10.false)

three : (c : Then-x-lt1000) → width_of c.args.x ≡ 3
three c = width_is _ 3 (omega arith) (omega arith) c.if-x-lt1000.true (inr c.if-x-lt100.false)

four : (c : Else-x-lt1000) → width_of c.args.x ≡ 4
four c = width_is _ 4 (omega arith) (omega arith) c.requires.x_bound (inr c.if-x-lt1000.false)

pub put_digit-requires : goal.put_digit-requires
put_digit-requires c = record {
  x_bound = c.if-x-lt10.true;
  at_in_bounds = rw (one ((goal.at.put_digit-requires c).Then-x-lt10)) at c.requires.x_in_bounds;
}

pub returns-then-x-lt10 : goal.returns-then-x-lt10
returns-then-x-lt10 c = rw (one ((goal.at.returns-then-x-lt10 c).Then-x-lt10)) c.put_digit.ensures

pub put_two-requires : goal.put_two-requires
put_two-requires c = record {
  x_bound = c.if-x-lt100.true;
  at_in_bounds = rw (two ((goal.at.put_two-requires c).Then-x-lt100)) at c.requires.x_in_bounds;
}

pub returns-then-x-lt100 : goal.returns-then-x-lt100
returns-then-x-lt100 c = rw (two ((goal.at.returns-then-x-lt100 c).Then-x-lt100)) c.put_two.ensures

pub put_digit-next-requires : goal.put_digit-next-requires
put_digit-next-requires c = record {
  x_bound = omega arith;
  at_in_bounds = omega (arith, three ((goal.at.put_digit-next-requires c).Then-x-lt1000), c.requires.x_in_bounds);
}

pub put_two-requires-then-x-lt1000 : goal.put_two-requires-then-x-lt1000
put_two-requires-then-x-lt1000 c = record {
  x_bound = omega arith;
  at_in_bounds = digits-fit 1 2 c.args.x (rw (three ((goal.at.put_two-requires-then-x-lt1000 c).Then-x-lt1000)) at c.requires.x_in_bounds) c.put_digit-next.ensures;
}

pub returns-then-x-lt1000 : goal.returns-then-x-lt1000
returns-then-x-lt1000 c =
    rw (three ((goal.at.returns-then-x-lt1000 c).Then-x-lt1000)) (digits-put 1 2 c.args.x (rw (three ((goal.at.returns-then-x-lt1000 c).Then-x-lt1000)) at c.requires.x_in_bounds) c.put_digit-next.ensures c.put_two-then-x-lt1000.ensures)

pub put_four-requires : goal.put_four-requires
put_four-requires c = record {
  x_bound = c.requires.x_bound;
  at_in_bounds = rw (four ((goal.at.put_four-requires c).Else-x-lt1000)) at c.requires.x_in_bounds;
}

pub returns : goal.returns
returns c = rw (four ((goal.at.returns c).Else-x-lt1000)) c.put_four.ensures
