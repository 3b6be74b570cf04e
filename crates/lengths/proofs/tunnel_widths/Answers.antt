-- `lengths::tunnel_widths` meets its contract.
use mathlib.Core.Path.{ap, ◌∙◌}
use Rattle.forms.specs.Write.{width_of}
use Rattle.lengths.proofs.Measuring.{tunnel-widths-none, tunnel-widths-more}
use native.Mathlib.Omega.{arith}
use Rattle.lengths.proofs.tunnel_widths.Goals as goal

pub loop-t-init : goal.loop-t-init
loop-t-init c = record { sum-is = omega (arith, tunnel-widths-none c.args.network.now); small = omega arith }

pub loop-t-preserved : goal.loop-t-preserved
loop-t-preserved c =
    let flow = c.width-flow.ensures.0 ∙ ap width_of c.flow.ensures.value in
    let old = c.width-old.ensures.0 ∙ ap width_of c.old.ensures.value in
    let new = c.width-new.ensures.0 ∙ ap width_of c.new_amount.ensures.value in
    record {
      sum-is = omega (arith, c.loop-t.invariant.sum-is, flow, old, new, tunnel-widths-more c.args.network.now c.loop-t.t);
      small = omega (arith, c.loop-t.invariant.small, c.width-flow.ensures.1, c.width-old.ensures.1, c.width-new.ensures.1);
    }
