-- `amounts::columns::links` meets its contract.
use Prim.Native.Nat.{ℕ, ◌<◌}
use mathlib.Core.Path.{◌≡◌, refl}
use native.Mathlib.Omega.{arith}
use lib.ListN.{length, length-set}
use Rattle.lists.specs.Lists.{network_of}
use Rattle.amounts.specs.Columns.{capacity, raised}
use Rattle.amounts.proofs.Bounds.{holds-none, holds_more, holds_at}
use Rattle.amounts.proofs.columns.links.Goals as goal

pub loop-l-init : goal.loop-l-init
loop-l-init c = record { size = (refl, refl); capacity = holds-none _ _; all = holds-none _ _ }

pub loop-l-preserved : goal.loop-l-preserved
loop-l-preserved c =
    let i = c.loop-l.invariant in
    let p : c.in_parts-bounds.result.protected ≡ capacity (network_of c.args.network.now) c.args.parts c.loop-l.l = grind arith in
    let a : c.in_parts-bounds.result.all ≡ raised (network_of c.args.network.now) c.args.parts c.loop-l.l = grind arith in
    let m = c.links-l-end.ensures.some in
    record {
      size = (simp length-set i.size.0, simp length-set i.size.1);
      capacity = holds_more _ _ _ _ (omega (arith, i.size.0, c.requires.2, c.loop-l-test.true, m)) p i.capacity;
      all = holds_more _ _ _ _ (omega (arith, i.size.1, c.requires.3, c.loop-l-test.true, m)) a i.all;
    }

pub returns : goal.returns
returns c =
    let i = c.loop-l.invariant in
    let h = rw c.new-judged.ensures at c.links-l-end.ensures.count in
    record { holds = holds_at _ _ _ _ i.capacity (omega (arith, c.loop-l-test.false, h)); holds_2 = holds_at _ _ _ _ i.all (omega (arith, c.loop-l-test.false, h)) }
