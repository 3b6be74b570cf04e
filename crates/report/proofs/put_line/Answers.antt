use Rattle.std.proofs.Common.{ℕ, ◌+◌, ◌<◌, ◌≤◌, List, [], ◌∷◌, ◌++◌, length, arith}
use Rattle.lines.specs.Puts.{Puts}
use Rattle.lines.proofs.Writing.{puts-byte, then-fits, then-puts}
use Rattle.report.specs.Printed.{decimal, printed_line}
use Rattle.report.proofs.Decimals.{line-most}
use Rattle.report.proofs.put_line.Goals as goal

-- after the key there is room for the digits and the line feed, and then for that
module _ (key : List ℕ) (v : ℕ) {at from feed : ℕ} {out out₁ out₂ : List ℕ} (room : at + length key + 21 ≤ length out) (p : Puts key at out out₁ from) (q : Puts (decimal v) from out₁ out₂ feed) where
  line-fits : at + length (printed_line key v) ≤ length out
  line-fits = omega (arith, room, line-most key v)

  rest : from + length (decimal v ++ (10 ∷ [])) ≤ length out₁
  rest = then-fits (decimal v ++ (10 ∷ [])) line-fits p

  feed-fits : feed < length out₂
  feed-fits = omega (arith, then-fits (10 ∷ []) rest q)

pub bounds-out-feed : goal.bounds-out-feed
bounds-out-feed c = feed-fits c.args.key.now c.args.v c.requires c.put-from.ensures c.put_decimal-feed.ensures

pub overflow_add-result : goal.overflow_add-result
overflow_add-result c = omega (arith, feed-fits c.args.key.now c.args.v c.requires c.put-from.ensures c.put_decimal-feed.ensures)

pub returns : goal.returns
returns c =
    let p = c.put-from.ensures in
    let q = c.put_decimal-feed.ensures in
    then-puts (line-fits c.args.key.now c.args.v c.requires p q) p (then-puts (rest c.args.key.now c.args.v c.requires p q) q (puts-byte c.put_decimal-feed.new.out c.put_decimal-feed.result 10 (feed-fits c.args.key.now c.args.v c.requires p q)))
