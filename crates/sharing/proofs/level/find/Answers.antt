-- `sharing::level::find` meets its contract. Assumes nothing.
use Prim.Native.Nat.{◌-◌}
use mathlib.Core.Path.{sym, subst₂, ◌∙◌}
use native.Mathlib.Nat.{div-mul-le_self}
use native.Mathlib.Omega.{arith}
use Rattle.sharing.proofs.Filling.{Filling, filling-none, filling-found, filling-next}
use Rattle.sharing.proofs.level.find.Goals as goal

pub loop-above-init : goal.loop-above-init
loop-above-init c = rw c.list.ensures.list (filling-none _ _ c.list.ensures.in_range.some)

pub returns-then-parts-above : goal.returns-then-parts-above
returns-then-parts-above c =
    let l = c.loop-above in
    let f = filling-found _ _ _ _ l.invariant c.requires.1 (sym c.split-parts.ensures.1 ∙ c.if-parts-above.true) in
    (f.0, omega (arith, f.1, div-mul-le_self (c.args.rate - l.met) l.above, l.invariant.room))

-- fewer above: on with what is met now
pub loop-above-smaller : goal.loop-above-smaller
loop-above-smaller c =
    let s = c.split-parts.ensures in
    omega (arith, (filling-next _ _ _ _ c.loop-above.invariant c.requires.1 (λ e. c.if-parts-above.false (s.1 ∙ e))).1, s.1)

pub loop-above-preserved : goal.loop-above-preserved
loop-above-preserved c =
    let s = c.split-parts.ensures in
    let n = filling-next _ _ _ _ c.loop-above.invariant c.requires.1 (λ e. c.if-parts-above.false (s.1 ∙ e)) in
    subst₂ (Filling c.args.rate c.args.demands.now) (sym s.0) (sym s.1) n.0
