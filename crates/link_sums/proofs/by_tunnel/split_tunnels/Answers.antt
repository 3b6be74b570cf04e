-- `link_sums::by_tunnel::split_tunnels` meets its contract: each table has those of the tunnels passed that it is for.
use Prim.Native.Nat.{ℕ}
use mathlib.Core.Path.{◌≡◌, sym, ap, subst, ◌∙◌}
use mathlib.Core.Bool.{not}
use lib.Dec.{leb}
use native.Mathlib.Omega.{arith}
use Rattle.model.specs.Scan.{Bound}
use Rattle.model.specs.Rule.{movers, counts}
use Rattle.model.proofs.Movers.{movers-tunnels}
use Rattle.model.proofs.Gathered.{counts-by-tunnel}
use Rattle.lists.specs.Lists.{network_of}
use Rattle.link_sums.specs.Tables.{Split}
use Rattle.link_sums.proofs.Tables.{table-take, table-skip, tunnels-room}
use Rattle.link_sums.proofs.by_tunnel.split_tunnels.Goals as goal
use Rattle.link_sums.proofs.by_tunnel.split_tunnels.Goals.{then-is_protected, else-is_protected}

pub add_tunnel-requires : goal.add_tunnel-requires
add_tunnel-requires c = (tunnels-room _ c.tunnels-t-end.ensures.good _ _ _ c.requires.by_tunnel c.loop-t.invariant.protected (omega (arith, c.loop-t.auto, c.tunnels-t-end.ensures.value)), c.old-old.ensures.most, c.new_amount-new.ensures.most)

pub add_tunnel-requires-else-is_protected : goal.add_tunnel-requires-else-is_protected
add_tunnel-requires-else-is_protected c = (tunnels-room _ c.tunnels-t-end.ensures.good _ _ _ c.requires.by_tunnel c.loop-t.invariant.others (omega (arith, c.loop-t.auto, c.tunnels-t-end.ensures.value)), c.old-old.ensures.most, c.new_amount-new.ensures.most)

pub loop-t-preserved : goal.loop-t-preserved
loop-t-preserved c =
    let N = network_of c.args.network.now in
    let u = c.requires.by_tunnel in
    let t = c.loop-t.t in
    let i = c.loop-t.invariant in
    -- whether it is protected is told by its flow's class
    let told : counts N Bound.protected t ≡ c.is_protected.result =
    counts-by-tunnel N u t ∙ ap (λ (f : ℕ). leb (N.class f) 1) (sym c.flow.ensures.value) ∙ sym c.is_protected.ensures in
    elim c.if-is_protected.branch [
      | then-is_protected w ↦ let e = told ∙ w.if-is_protected.true in
          rw w.tables-is (record { protected = table-take N u t _ _ _ i.protected e (rw (← c.via-via.ensures.value, ← c.old-old.ensures.value, ← c.new_amount-new.ensures.value) w.add_tunnel.ensures); others = table-skip N t _ _ i.others (ap not e) })
      | else-is_protected w ↦ let e = told ∙ w.if-is_protected.false in
          rw w.tables-is (record { protected = table-skip N t _ _ i.protected e; others = table-take N u t _ _ _ i.others (ap not e) (rw (← c.via-via.ensures.value, ← c.old-old.ensures.value, ← c.new_amount-new.ensures.value) w.add_tunnel-else-is_protected.ensures) })
    ]

pub returns-clause-split : goal.returns-clause-split
returns-clause-split c =
    let N = network_of c.args.network.now in
    let e : c.loop-t.t ≡ movers N = omega (arith, c.loop-t.auto, c.loop-t-test.false, c.tunnels-t-end.ensures.value, movers-tunnels N c.requires.by_tunnel) in
    subst (λ (n : ℕ). Split N n c.loop-t.tables) e c.loop-t.invariant
