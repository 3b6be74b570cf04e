-- `fields::put_number` meets its contract.
use Prim.Native.Nat.{ℕ, ◌-◌, ◌≤◌}
use lib.ListN.{replicate, length-replicate}
use Rattle.forms.specs.Write.{width_of}
use Rattle.fields.proofs.Fields.{Put, put_first, number-width, number-puts, below-ten}
use native.Mathlib.Omega.{arith}
use Rattle.fields.proofs.put_number.Goals as goal
use Rattle.fields.proofs.put_number.Goals.{After-put_spaces-first}

-- the spaces are put
module _ (c : After-put_spaces-first) where
  abbrev w : ℕ
  w = c.args.width

  abbrev v : ℕ
  v = c.args.v

  small : width_of v ≤ w
  small = number-width w v c.requires.0 c.requires.1 c.requires.2

  spaced : Put (replicate (w - width_of v) 32) (w - width_of v) c.args.from c.args.out.now c.put_spaces-first.new.out c.put_spaces-first.result
  spaced = put_first (length-replicate _ _) (omega (arith, c.requires)) (rw c.width-n.ensures.0 at c.put_spaces-first.ensures)

pub width-n-requires : goal.width-n-requires
width-n-requires c = below-ten c.args.width c.args.v c.requires.1 c.requires.2

pub overflow_sub-width : goal.overflow_sub-width
overflow_sub-width c = omega (arith, c.width-n.ensures, number-width c.args.width c.args.v c.requires.0 c.requires.1 c.requires.2)

pub put_digits-requires : goal.put_digits-requires
put_digits-requires c = let d = spaced ((goal.at.put_digits-requires c).After-put_spaces-first) in
    omega (arith, d.same, d.place, c.requires, c.width-n.ensures, small ((goal.at.put_digits-requires c).After-put_spaces-first))

pub returns : goal.returns
returns c = number-puts c.args.width c.args.v c.requires.0 c.requires.1 c.requires.2 c.requires.3 (spaced ((goal.at.returns c).After-put_spaces-first)).puts (rw c.width-n.ensures.0 at c.put_digits.ensures)
