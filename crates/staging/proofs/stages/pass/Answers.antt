-- `staging::stages::pass` meets its contract: the turns so far are those of the definition. Assumes nothing.
use native.Mathlib.Omega.{arith}
use Rattle.lists.specs.Lists.{at}
use Rattle.rules.specs.Kinds.{kind_number}
use Rattle.staging.proofs.Turns.{reached-start, ready_on, reached-on, reached-to}
use Rattle.staging.proofs.stages.pass.Goals as goal

pub loop-t-init : goal.loop-t-init
loop-t-init c = record { here = c.rule_at-from.ensures.value; reached = reached-start _ _ _ _ _ _ _ _ c.requires }

pub turn-requires : goal.turn-requires
turn-requires c = record {
  ready = ready_on _ _ _ _ _ _ _ _ _ _ _ c.requires c.loop-t.invariant.reached;
  t_bound = (omega (arith, c.tunnels-t-end.ensures.count, c.loop-t-test.true), c.loop-t.invariant.here);
}

pub loop-t-preserved : goal.loop-t-preserved
loop-t-preserved c = record {
  here = omega (arith, c.loop-t.invariant.here);
  reached = reached-on _ _ _ _ _ c.loop-t.stages _ _ c.loop-t.invariant.reached.stages c.turn.ensures;
}

pub returns : goal.returns
returns c =
    let l = c.loop-t in
    let a = c.args in
    reached-to a.rules.now (kind_number a.p.kind) a.p.stage l.t _ (at a.stages.now) l.counts l.stages l.invariant.reached (omega (arith, c.loop-t-test.false, l.auto.t-end, c.tunnels-t-end.ensures.value))
