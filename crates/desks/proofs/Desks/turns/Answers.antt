-- `desks::Desks::turns` meets its contract. Assumes nothing.
use Prim.Native.Nat.{ℕ, ◌+◌}
use mathlib.Core.Path.{ap, sym, ◌∙◌}
use native.Mathlib.Omega.{arith}
use Rattle.desks.proofs.Rounds.{turns-earlier, turns-later}
use Rattle.desks.proofs.Desks.turns.Goals as goal

pub returns-then-place_in_round : goal.returns-then-place_in_round
returns-then-place_in_round c =
    ap (λ (p : ℕ). p + 1) c.counted-p.ensures
    ∙ sym (turns-earlier _ _ _ _ (omega (arith, c.if-place_in_round.true, c.place_in_round-2.ensures, c.place_in_round.ensures)))

pub returns-else-place_in_round : goal.returns-else-place_in_round
returns-else-place_in_round c =
    c.counted-p.ensures
    ∙ sym (turns-later _ _ _ _ (omega (arith, c.if-place_in_round.false, c.place_in_round-2.ensures, c.place_in_round.ensures)))
