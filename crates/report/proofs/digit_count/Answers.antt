use Rattle.std.proofs.Common.{◌+◌, ◌-◌, ◌≡◌, ◌<◌, ◌^◌, ◌≤◌, arith, sym, inr, ◌∙◌}
use Rattle.report.proofs.Decimals.{tenth, reaches, below-twenty, counted}
use Rattle.report.proofs.digit_count.Goals as goal

pub loop-rest-preserved : goal.loop-rest-preserved
loop-rest-preserved c =
    let small : c.args.v < 10 ^ 20 = omega (arith, c.ranges.v.fits) in
    let left = rw c.loop-rest.invariant.left at c.loop-rest-test.true in
    let same : c.loop-rest.count + 1 - 1 ≡ c.loop-rest.count = omega arith in
    let few = below-twenty c.args.v c.loop-rest.count left small in
    let long : 10 ^ (c.loop-rest.count + 1 - 1) ≤ c.args.v = rw same (reaches c.args.v c.loop-rest.count left) in
    record { some = omega arith; most = omega arith; left = tenth c.args.v c.loop-rest.count c.loop-rest.rest c.loop-rest.invariant.left; above = inr long }

pub returns-clause-value : goal.returns-clause-value
returns-clause-value c =
    let small : c.args.v < 10 ^ 20 = omega (arith, c.ranges.v.fits) in
    let none : c.loop-rest.rest ≡ 0 = omega (arith, c.loop-rest-test.false) in
    counted c.args.v c.loop-rest.count small c.loop-rest.invariant.some (sym c.loop-rest.invariant.left ∙ none) c.loop-rest.invariant.above
