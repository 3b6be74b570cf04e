-- `lines::put` meets its contract.
use Prim.Native.Nat.{◌<◌, ◌+◌}
use mathlib.Core.Path.{◌≡◌, refl, ◌∙◌}
use native.Mathlib.Omega.{arith}
use lib.ListN.{length, length-set}
use lib.Seq.{paste-zero}
use Rattle.lines.proofs.Writing.{put_step, put-end}
use borrow.Author.Rules.{rules}
use Rattle.lines.proofs.put.Goals as goal
use Rattle.lines.proofs.put.Goals.{After-loop-i}

end : (c : After-loop-i) → c.loop-i.i ≡ length c.args.s.now
end c = omega arith

pub loop-i-init : goal.loop-i-init
loop-i-init c = (search rules, (refl, paste-zero c.args.out.now c.args.at c.args.s.now))

pub loop-i-preserved : goal.loop-i-preserved
loop-i-preserved c =
    let a = c.args in
    let below : a.at + c.loop-i.i < length a.out.now = omega (arith, c.loop-i-test.true, c.requires) in (
      search rules,
      (
        simp length-set c.loop-i.invariant.1.0,
        rw c.loop-i.invariant.1.1 (put_step a.out.now a.at a.s.now _ below c.loop-i-test.true),
      ),
    )

pub shape_of-out : goal.shape_of-out
shape_of-out c = c.loop-i.invariant.1.0

pub returns : goal.returns
returns c =
    let a = c.args in
    record { place = refl; bytes = c.loop-i.invariant.1.1 ∙ rw (end c) (put-end a.out.now a.at _) }
