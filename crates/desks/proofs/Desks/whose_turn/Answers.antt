-- `desks::Desks::whose_turn` meets its contract: of the desks that come before the k-th in the round none has work. Assumes nothing.
use mathlib.Core.Path.{◌≡◌, refl, sym, ap, ◌∙◌}
use native.Mathlib.Omega.{arith}
use Rattle.model.specs.Search.{first}
use Rattle.desks.specs.Round.{in_round}
use Rattle.desks.specs.State.{work_at}
use Rattle.desks.specs.Seen.{seen}
use Rattle.desks.proofs.Queues.{nobody-yet, passed, found, nobody}
use Rattle.desks.proofs.Desks.whose_turn.Goals as goal

pub loop-k-init : goal.loop-k-init
loop-k-init c = nobody-yet _

pub returns-then-self-at-gt0-clause-s_value : goal.returns-then-self-at-gt0-clause-s_value
unfolding in_round
returns-then-self-at-gt0-clause-s_value c = found c.args.self.now c.loop-k.k _ refl c.loop-k-test.true c.loop-k.invariant c.if-self-at-gt0.true

pub loop-k-preserved : goal.loop-k-preserved
unfolding in_round
loop-k-preserved c = passed c.args.self.now c.loop-k.k _ refl c.loop-k.invariant (omega (arith, c.if-self-at-gt0.false))

pub returns-clause-s_value : goal.returns-clause-s_value
returns-clause-s_value c = let k : c.loop-k.k ≡ 8 = omega arith in
    nobody _ (ap (λ n. first n (work_at (seen c.args.self.now))) (sym k) ∙ c.loop-k.invariant)
