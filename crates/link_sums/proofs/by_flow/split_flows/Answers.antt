-- `link_sums::by_flow::split_flows` meets its contract: each table has those of the flows passed that it is for.
use Prim.Native.Nat.{ℕ}
use mathlib.Core.Path.{◌≡◌, sym, ap, subst, ◌∙◌}
use mathlib.Core.Bool.{not}
use lib.Dec.{leb}
use native.Mathlib.Omega.{arith}
use Rattle.model.specs.Scan.{Bound}
use Rattle.model.specs.Rule.{movers, counts}
use Rattle.model.proofs.Movers.{movers-flows}
use Rattle.model.proofs.Gathered.{counts-by-flow}
use Rattle.lists.specs.Lists.{network_of}
use Rattle.link_sums.specs.Tables.{Split}
use Rattle.link_sums.proofs.Tables.{table-skip, flows-room}
use Rattle.link_sums.proofs.Flows.{flow-take}
use Rattle.link_sums.proofs.by_flow.split_flows.Goals as goal
use Rattle.link_sums.proofs.by_flow.split_flows.Goals.{then-is_protected, else-is_protected, After-flows-flow-end}

count : (c : After-flows-flow-end) → c.flows-flow-end.result ≡ (network_of c.args.chains.now).flows
count c = c.flows-flow-end.ensures.value ∙ ap (λ l. (network_of l).flows) c.network-network.ensures.value

pub add_flow-requires-clause-room : goal.add_flow-requires-clause-room
add_flow-requires-clause-room c = flows-room _ c.network-network.ensures.good _ _ _ c.requires.by_flow c.loop-flow.invariant.protected (omega (arith, c.loop-flow.auto, count ((goal.at.add_flow-requires-clause-room c).After-flows-flow-end)))

pub add_flow-requires-else-is_protected-clause-room : goal.add_flow-requires-else-is_protected-clause-room
add_flow-requires-else-is_protected-clause-room c = flows-room _ c.network-network.ensures.good _ _ _ c.requires.by_flow c.loop-flow.invariant.others (omega (arith, c.loop-flow.auto, count ((goal.at.add_flow-requires-else-is_protected-clause-room c).After-flows-flow-end)))

pub loop-flow-preserved : goal.loop-flow-preserved
loop-flow-preserved c =
    let N = network_of c.args.chains.now in
    let f = c.loop-flow.flow in
    let i = c.loop-flow.invariant in
    -- whether it is protected is told by its class
    let told : counts N Bound.protected f ≡ c.is_protected.result =
    counts-by-flow N c.requires.by_flow f ∙ ap (λ l. leb ((network_of l).class f) 1) (sym c.network-network.ensures.value) ∙ sym c.is_protected.ensures in
    elim c.if-is_protected.branch [
      | then-is_protected w ↦ let e = told ∙ w.if-is_protected.true in
          rw w.tables-is (record { protected = flow-take N f _ _ _ i.protected e w.add_flow.ensures; others = table-skip N f _ _ i.others (ap not e) })
      | else-is_protected w ↦ let e = told ∙ w.if-is_protected.false in
          rw w.tables-is (record { protected = table-skip N f _ _ i.protected e; others = flow-take N f _ _ _ i.others (ap not e) w.add_flow-else-is_protected.ensures })
    ]

pub returns-clause-split : goal.returns-clause-split
returns-clause-split c =
    let N = network_of c.args.chains.now in
    let e : c.loop-flow.flow ≡ movers N = omega (arith, c.loop-flow.auto, c.loop-flow-test.false, count ((goal.at.returns-clause-split c).After-flows-flow-end), movers-flows N c.requires.by_flow) in
    subst (λ (n : ℕ). Split N n c.loop-flow.tables) e c.loop-flow.invariant
