-- `readers::read::body_after` meets its contract.
use Rattle.std.proofs.Common.{length, sym, ◌∙◌, arith, ltb-false}
use Rattle.lists.specs.Lists.{at}
use Rattle.forms.specs.Form.{network_lines}
use Rattle.forms.proofs.Forms.{head-there}
use Rattle.readers.proofs.read.body_after.Goals as goal

pub of-requires : goal.of-requires
of-requires c =
    let l = c.args.done.now in
    omega (arith, head-there l, ltb-false (length l) (length (network_lines (at l 0))) (sym c.in_network_head.ensures ∙ c.if-not-in_network_head.true))
