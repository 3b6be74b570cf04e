-- `fields::put_line` meets its contract: its fields are put one after the other.
use Prim.Native.Nat.{ℕ, ◌<◌}
use mathlib.Core.Path.{◌≡◌, refl}
use mathlib.Core.List.{List, ◌++◌}
use native.Mathlib.Omega.{arith}
use lib.Dec.{lit≤}
use lib.ListN.{length, get_or, length-set}
use Rattle.lines.proofs.Writing.{puts-byte}
use Rattle.fields.specs.Columns.{right_in, digits, numbers}
use Rattle.fields.proofs.Fields.{Put, put_first, put_next, number-length, line-fields}
use Rattle.fields.proofs.put_line.Goals as goal
use Rattle.fields.proofs.put_line.Goals.{After-put_number-feed, After-put_number-fifth, After-put_number-fourth, After-put_number-second, After-put_number-third}

-- the fields of a row, in their columns
module _ (row : List ℕ) where
  abbrev six : ℕ → List ℕ
  six k = right_in 6 (digits (get_or row k 0))

  abbrev ten : ℕ → List ℕ
  ten k = right_in 10 (digits (get_or row k 0))

  six-long : (k : ℕ) → get_or row k 0 < 1000000 → length (six k) ≡ 6
  six-long k h = number-length 6 (get_or row k 0) (lit≤ tt) (lit≤ tt) h

  ten-long : (k : ℕ) → get_or row k 0 < 10000000000 → length (ten k) ≡ 10
  ten-long k h = number-length 10 (get_or row k 0) (lit≤ tt) (lit≤ tt) h

-- what is put after each call
put1 : (c : After-put_number-second) → let a = c.args in Put (six a.numbers 0) 6 a.from a.out.now c.put_number-second.new.out c.put_number-second.result
put1 c = put_first (six-long c.args.numbers 0 c.requires.0.first) (omega (arith, c.requires.1)) c.put_number-second.ensures

put2 : (c : After-put_number-third) → let a = c.args in Put (six a.numbers 0 ++ six a.numbers 1) 12 a.from a.out.now c.put_number-third.new.out c.put_number-third.result
put2 c = put_next (six-long c.args.numbers 1 c.requires.0.second) (omega (arith, c.requires.1)) (put1 (c.before.before.before.before)) c.put_number-third.ensures

put3 : (c : After-put_number-fourth)
    → let a = c.args in Put ((six a.numbers 0 ++ six a.numbers 1) ++ ten a.numbers 2) 22 a.from a.out.now c.put_number-fourth.new.out c.put_number-fourth.result
put3 c = put_next (ten-long c.args.numbers 2 c.requires.0.third) (omega (arith, c.requires.1)) (put2 (c.before.before.before.before)) c.put_number-fourth.ensures

put4 : (c : After-put_number-fifth)
    → let a = c.args in Put (((six a.numbers 0 ++ six a.numbers 1) ++ ten a.numbers 2) ++ ten a.numbers 3) 32 a.from a.out.now c.put_number-fifth.new.out c.put_number-fifth.result
put4 c = put_next (ten-long c.args.numbers 3 c.requires.0.fourth) (omega (arith, c.requires.1)) (put3 (c.before.before.before.before)) c.put_number-fifth.ensures

put5 : (c : After-put_number-feed)
    → let a = c.args in
    Put ((((six a.numbers 0 ++ six a.numbers 1) ++ ten a.numbers 2) ++ ten a.numbers 3) ++ ten a.numbers 4) 42 a.from a.out.now c.put_number-feed.new.out c.put_number-feed.result
put5 c = put_next (ten-long c.args.numbers 4 c.requires.0.fifth) (omega (arith, c.requires.1)) (put4 (c.before.before.before.before)) c.put_number-feed.ensures

-- the line feed
feed : (c : After-put_number-feed) → c.put_number-feed.result < length c.put_number-feed.new.out
feed c = let p = put5 c in omega (arith, p.same, p.place, c.requires.1)

pub put_number-third-requires : goal.put_number-third-requires
put_number-third-requires c = let p = put1 ((goal.at.put_number-third-requires c).After-put_number-second) in (lit≤ tt, lit≤ tt, c.requires.0.second, omega (arith, p.same, p.place, c.requires.1))

pub put_number-fourth-requires : goal.put_number-fourth-requires
put_number-fourth-requires c = let p = put2 ((goal.at.put_number-fourth-requires c).After-put_number-third) in (lit≤ tt, lit≤ tt, c.requires.0.third, omega (arith, p.same, p.place, c.requires.1))

pub put_number-fifth-requires : goal.put_number-fifth-requires
put_number-fifth-requires c = let p = put3 ((goal.at.put_number-fifth-requires c).After-put_number-fourth) in (lit≤ tt, lit≤ tt, c.requires.0.fourth, omega (arith, p.same, p.place, c.requires.1))

pub put_number-feed-requires : goal.put_number-feed-requires
put_number-feed-requires c = let p = put4 ((goal.at.put_number-feed-requires c).After-put_number-fifth) in (lit≤ tt, lit≤ tt, c.requires.0.fifth, omega (arith, p.same, p.place, c.requires.1))

pub bounds-out-feed : goal.bounds-out-feed
bounds-out-feed c = feed ((goal.at.bounds-out-feed c).After-put_number-feed)

pub overflow_add-result : goal.overflow_add-result
overflow_add-result c = omega (arith, feed ((goal.at.overflow_add-result c).After-put_number-feed))

pub shape_of-out : goal.shape_of-out
shape_of-out c = simp length-set (put5 ((goal.at.shape_of-out c).After-put_number-feed)).same

pub returns : goal.returns
unfolding numbers
returns c =
    let all = (goal.at.returns c).After-put_number-feed in
    let q = put_next refl (omega (arith, c.requires.1)) (put5 all) (puts-byte c.put_number-feed.new.out c.put_number-feed.result 10 (feed all)) in
    rw (line-fields (digits (get_or c.args.numbers 0 0)) (digits (get_or c.args.numbers 1 0)) (digits (get_or c.args.numbers 2 0)) (digits (get_or c.args.numbers 3 0)) (digits (get_or c.args.numbers 4 0))) q.puts
