-- `lists::Network::position` meets its contract.
use Prim.Native.Nat.{ℕ, ◌+◌, ◌*◌, ◌-◌, ◌≤◌}
use mathlib.Core.Path.{◌≡◌, ap}
use Rattle.lists.specs.declared.Network.{Network}
use Rattle.lists.specs.Lists.{link_at, flow_at, tunnel_at, most_numbers}
use Rattle.lists.proofs.Positions.{head-size, flows-start, tunnels-start, tunnel-at, links-few, flows-few, link-stands, flow-stands, tunnel-stands}
use native.Mathlib.Omega.{arith}
use Rattle.lists.proofs.Network.position.Goals as goal
use Rattle.lists.proofs.Network.position.Goals.{After-per_flow-per_flow, After-per_link-per_link, Else-m-per_flow}

-- how far the position is from where the links' numbers begin, and how many those are
module _ (c : After-per_link-per_link) where
  abbrev sizes : Network
  sizes = c.args.self

  abbrev i : ℕ
  i = c.args.i

  from-links : link_at sizes 0 + (i - c.head.result) ≡ i
  from-links = omega (arith, c.requires.1, head-size sizes, c.head.ensures)

  links-here : c.per_link-per_link.result * sizes.links ≤ most_numbers
  links-here = omega (arith, ap (λ (p : ℕ). p * sizes.links) c.per_link-per_link.ensures, links-few sizes c.requires.0 sizes.links (omega arith))

-- the same of the flows', past the links'
module _ (c : After-per_flow-per_flow) where
  abbrev past-links : ℕ
  past-links = c.args.i - c.head.result - c.per_link-per_link.result * c.args.self.links

  from-flows : flow_at c.args.self 0 + past-links ≡ c.args.i
  from-flows =
      omega (arith, from-links (c.before.before.before.before), flows-start c.args.self, c.if-n-per_link.false, ap (λ (p : ℕ). p * c.args.self.links) c.per_link-per_link.ensures)

  flows-here : c.per_flow-per_flow.result * c.args.self.flows ≤ most_numbers
  flows-here = omega (arith, ap (λ (p : ℕ). p * c.args.self.flows) c.per_flow-per_flow.ensures, flows-few c.args.self c.requires.0 c.args.self.flows (omega arith))

-- and of the tunnels', past both
from-tunnels : (c : Else-m-per_flow) → let f = c.before.before in tunnel_at c.args.self 0 + (past-links f - c.per_flow-per_flow.result * c.args.self.flows) ≡ c.args.i
from-tunnels c =
    let f = c.before.before in
    let n = c.args.self in
    omega (arith, from-flows f, tunnels-start n, c.if-m-per_flow.false, ap (λ (p : ℕ). p * n.flows) c.per_flow-per_flow.ensures)

pub overflow_sub-n : goal.overflow_sub-n
overflow_sub-n c = omega (arith, c.requires.1, head-size c.args.self, c.head.ensures)

pub overflow_mul-per_link : goal.overflow_mul-per_link
overflow_mul-per_link c = omega (arith, links-here ((goal.at.overflow_mul-per_link c).After-per_link-per_link))

pub returns-then-n-per_link : goal.returns-then-n-per_link
returns-then-n-per_link c = link-stands c.args.self _ _ _ c.per_link-per_link.ensures (from-links ((goal.at.returns-then-n-per_link c).After-per_link-per_link)) c.if-n-per_link.true

pub overflow_mul-per_flow : goal.overflow_mul-per_flow
overflow_mul-per_flow c = omega (arith, flows-here ((goal.at.overflow_mul-per_flow c).After-per_flow-per_flow))

pub returns-then-m-per_flow : goal.returns-then-m-per_flow
returns-then-m-per_flow c = flow-stands c.args.self _ _ _ c.per_flow-per_flow.ensures (from-flows ((goal.at.returns-then-m-per_flow c).After-per_flow-per_flow)) c.if-m-per_flow.true

pub returns-then-k-self : goal.returns-then-k-self
returns-then-k-self c = tunnel-stands c.args.self _ _ (from-tunnels ((goal.at.returns-then-k-self c).Else-m-per_flow)) c.if-k-self.true

pub returns : goal.returns
returns c = let n = c.args.self in omega (arith, from-tunnels ((goal.at.returns c).Else-m-per_flow), c.if-k-self.false, tunnel-at n n.tunnels)
