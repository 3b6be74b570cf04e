-- `loads::gather::gather` meets its contract.
use mathlib.Core.Path.{◌≡◌, refl}
use native.Mathlib.Omega.{arith}
use Rattle.lists.specs.Lists.{at}
use Rattle.loads.specs.Tables.{part_of}
use Rattle.loads.proofs.Passes.{loads-none, loads-more, loads-room}
use Rattle.loads.proofs.gather.gather.Goals as goal

pub loop-t-init : goal.loop-t-init
loop-t-init c = loads-none _ _ _ _ _ _ c.requires.6 c.clear.ensures

pub add_tunnel-requires : goal.add_tunnel-requires
add_tunnel-requires c =
    loads-room c.args.links (at c.args.vias.now) (at c.args.classes.now) c.args.amounts.now c.args.n c.loop-t.t _ _ _ refl c.loop-t-test.true c.requires.1 c.requires.0 c.number.ensures.few
    (c.requires.4.each _ c.loop-t-test.true) c.requires.5 c.loop-t.invariant

pub loop-t-preserved : goal.loop-t-preserved
loop-t-preserved c =
    let part : c.number.result ≡ part_of (at c.args.classes.now c.loop-t.t) = grind arith in
    loads-more c.args.links (at c.args.vias.now) (at c.args.classes.now) c.args.amounts.now c.loop-t.t _ _ _ _ refl (part, c.number.ensures.few) c.loop-t.invariant c.add_tunnel.ensures
