-- `sharing::demands::Demands::judge` meets its contract. Assumes nothing.
use mathlib.Core.Path.{◌≡◌, sym, ap, ◌∙◌}
use lib.ListN.{length}
use native.Mathlib.Omega.{arith}
use Rattle.std.specs.declared.result.Result.TheVariants.{Err}
use Rattle.sharing.proofs.Outcomes.{first-bad, none-bad, all-low, all-added}
use Rattle.sharing.proofs.demands.Demands.judge.Goals as goal

pub returns-then-bad-list : goal.returns-then-bad-list
returns-then-bad-list c =
    let f = c.look-bad.ensures in ap Err c.unshareable.ensures ∙ sym (first-bad _ _ f.before c.if-bad-list.true (f.here c.if-bad-list.true))

pub invariant_of-result : goal.invariant_of-result
invariant_of-result c =
    let f = c.look-bad.ensures in
    let e : c.look-bad.result.bad ≡ length c.args.list.now = omega (arith, c.if-bad-list.false, f.inside) in
    record { in_range = all-low _ _ f.before c.requires.0 c.requires.1 e; adds = all-added _ _ _ e f.adds }

pub returns : goal.returns
returns c =
    let f = c.look-bad.ensures in
    let e : c.look-bad.result.bad ≡ length c.args.list.now = omega (arith, c.if-bad-list.false, f.inside) in
    sym (none-bad _ _ f.before e)
