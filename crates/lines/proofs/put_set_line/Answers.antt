-- `lines::put_set_line` meets its contract.
use Prim.Native.Nat.{ℕ, ◌+◌, ◌≤◌, ◌<◌}
use mathlib.Core.List.{List, [], ◌∷◌, ◌++◌}
use native.Mathlib.Omega.{arith}
use lib.ListN.{length, length-append}
use Rattle.forms.specs.Write.{digits_in}
use Rattle.forms.proofs.Numbers.{length_digits}
use Rattle.lines.specs.Puts.{Puts}
use Rattle.lines.proofs.Writing.{puts-byte, then-fits, then-puts}
use Rattle.lines.proofs.put_set_line.Goals as goal
use Rattle.lines.proofs.put_set_line.Goals.{After-put-from}

module _ (c : After-put-from) where
  -- there is room for the digits and the line feed, and then for that
  rest : c.put-from.result + length (digits_in 16 16 c.args.v ++ (10 ∷ [])) ≤ length c.put-from.new.out
  rest = then-fits (digits_in 16 16 c.args.v ++ (10 ∷ [])) c.requires c.put-from.ensures

  fits : {out : List ℕ} {p : ℕ} → Puts (digits_in 16 16 c.args.v) c.put-from.result c.put-from.new.out out p → p < length out
  fits q = omega (arith, then-fits (10 ∷ []) rest q)

pub put-from-requires : goal.put-from-requires
put-from-requires c = omega (arith, c.requires, length-append c.args.key.now (digits_in 16 16 c.args.v ++ (10 ∷ [])))

pub put_hex-feed-requires : goal.put_hex-feed-requires
put_hex-feed-requires c =
    omega (arith, rest ((goal.at.put_hex-feed-requires c).After-put-from), length-append (digits_in 16 16 c.args.v) (10 ∷ []), length_digits 16 16 c.args.v)

pub bounds-out-feed : goal.bounds-out-feed
bounds-out-feed c = fits ((goal.at.bounds-out-feed c).After-put-from) c.put_hex-feed.ensures

pub overflow_add-result : goal.overflow_add-result
overflow_add-result c = omega (arith, fits ((goal.at.overflow_add-result c).After-put-from) c.put_hex-feed.ensures)

pub returns : goal.returns
returns c =
    let p = (goal.at.returns c).After-put-from in
    then-puts c.requires c.put-from.ensures (then-puts (rest p) c.put_hex-feed.ensures (puts-byte _ _ 10 (fits p c.put_hex-feed.ensures)))
