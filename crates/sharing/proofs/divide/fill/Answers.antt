-- `sharing::divide::fill` meets its contract: the output has the shares of the services passed, and then what it had. Assumes nothing.
use Prim.Native.Nat.{ℕ, ◌+◌, min}
use mathlib.Core.Path.{refl, ap, ap₂, ◌∙◌}
use native.Mathlib.Omega.{arith}
use lib.ListN.{length-set}
use Rattle.model.proofs.Listed.{listed-none, listed-on, listed-to}
use Rattle.sharing.specs.Share.{share_at}
use Rattle.sharing.proofs.Shares.{above_zero, unit-next}
use Rattle.sharing.proofs.divide.fill.Goals as goal

pub loop-i-init : goal.loop-i-init
loop-i-init c = let a = c.args in record { size = refl; rest = omega (arith, above_zero a.demands.now a.level.at a.level.left); done = listed-none _ _ }

pub loop-i-preserved : goal.loop-i-preserved
unfolding share_at
loop-i-preserved c =
    let l = c.loop-i in
    let n = unit-next _ _ _ l.i l.left _ l.invariant.rest (c.min-one.ensures ∙ ap (λ (x : ℕ). min x l.left) c.is_above.ensures.value) in
    record {
      size = simp length-set l.invariant.size;
      rest = n.2;
      done = listed-on _ l.i _ _ _ l.invariant.done (omega (arith, c.loop-i-test.true, c.requires.0)) (ap₂ (λ (x y : ℕ). x + y) c.min.ensures n.0);
    }

pub returns : goal.returns
returns c = let l = c.loop-i in listed-to _ l.i _ _ _ l.invariant.done (omega (arith, c.loop-i-test.false, l.auto.i-end))
