-- `writers::write::put_network` meets its contract.
use Prim.Native.Nat.{ℕ, ◌+◌, ◌*◌, ◌≤◌}
use mathlib.Core.Path.{◌≡◌, subst}
use mathlib.Core.List.{List}
use native.Mathlib.Omega.{arith}
use lib.ListN.{length, get_or}
use Rattle.lists.specs.Lists.{head_size, per_link, per_flow, network_sizes, link_at, flow_at, tunnel_at}
use Rattle.lists.specs.declared.Network as counts
use Rattle.lists.proofs.Positions.{link-at, flow-at, tunnel-at, flows-follow, tunnels-follow, head-size}
use Rattle.forms.specs.Form.{Whole, tunnel_lines}
use Rattle.forms.specs.Write.{render}
use Rattle.forms.specs.declared.form.Form.TheVariants.{Network}
use Rattle.forms.proofs.Good.{network-size}
use Rattle.lines.specs.Puts.{Puts}
use Rattle.lengths.specs.Lines.{lines_from}
use Rattle.lengths.proofs.Runs.{head-in, all_lines, front_fits, rest-fits, rest_put}
use Rattle.writers.proofs.write.put_network.Goals as goal

-- each part begins where the one before it ends, and the last ends with the list
module _ (l : List ℕ) (w : Whole Network l) (old : List ℕ) (fits : length (render Network l) ≤ length old) where
  abbrev sizes : counts.Network
  sizes = network_sizes l

  links-end : link_at sizes 0 + per_link sizes.edition * sizes.links ≡ flow_at sizes 0
  links-end = omega (arith, link-at sizes sizes.links, flows-follow sizes)

  flows-end : flow_at sizes 0 + per_flow sizes.edition * sizes.flows ≡ tunnel_at sizes 0
  flows-end = omega (arith, flow-at sizes sizes.flows, tunnels-follow sizes)

  tunnels-end : tunnel_at sizes 0 + length (tunnel_lines sizes) * sizes.tunnels ≡ length l
  tunnels-end = omega (arith, tunnel-at sizes sizes.tunnels, network-size l w)

  -- the first n lines are put
  abbrev Written : ℕ → List ℕ → ℕ → Type 0
  Written n out p = Puts (lines_from Network l 0 n) 0 old out p

  module _ {o : List ℕ} {q : ℕ} where
    head-put : Written (head_size (get_or l 0 0)) o q → Written (link_at sizes 0) o q
    unfolding network_sizes
    head-put = rw (head-size sizes) (λ w. w)

    links-fit : Written (link_at sizes 0) o q → q + length (lines_from Network l (link_at sizes 0) (per_link sizes.edition * sizes.links)) ≤ length o
    links-fit = rest-fits Network l _ _ fits (omega (arith, links-end, flows-end, tunnels-end))

    flows-fit : Written (flow_at sizes 0) o q → q + length (lines_from Network l (flow_at sizes 0) (per_flow sizes.edition * sizes.flows)) ≤ length o
    flows-fit = rest-fits Network l _ _ fits (omega (arith, flows-end, tunnels-end))

    tunnels-fit : Written (tunnel_at sizes 0) o q → q + length (lines_from Network l (tunnel_at sizes 0) (length (tunnel_lines sizes) * sizes.tunnels)) ≤ length o
    tunnels-fit = rest-fits Network l _ _ fits (omega (arith, tunnels-end))

    module _ {out : List ℕ} {p : ℕ} where
      links-put : Written (link_at sizes 0) o q → Puts (lines_from Network l (link_at sizes 0) (per_link sizes.edition * sizes.links)) q o out p → Written (flow_at sizes 0) out p
      links-put x y = subst (λ (n : ℕ). Written n out p) links-end (rest_put Network l _ _ fits (omega (arith, links-end, flows-end, tunnels-end)) x y)

      flows-put : Written (flow_at sizes 0) o q → Puts (lines_from Network l (flow_at sizes 0) (per_flow sizes.edition * sizes.flows)) q o out p → Written (tunnel_at sizes 0) out p
      flows-put x y = subst (λ (n : ℕ). Written n out p) flows-end (rest_put Network l _ _ fits (omega (arith, flows-end, tunnels-end)) x y)

      tunnels-put : Written (tunnel_at sizes 0) o q → Puts (lines_from Network l (tunnel_at sizes 0) (length (tunnel_lines sizes) * sizes.tunnels)) q o out p → Puts (render Network l) 0 old out p
      tunnels-put x y = rw (tunnels-end, all_lines Network l) at (rest_put Network l _ _ fits (omega (arith, tunnels-end)) x y)

pub put_network_head-links-requires-clause-room : goal.put_network_head-links-requires-clause-room
put_network_head-links-requires-clause-room c = front_fits Network _ _ _ c.requires.room (head-in _ (network-size _ c.requires.whole))

pub put_links-flows-requires : goal.put_links-flows-requires
put_links-flows-requires c =
    let head = head-put _ c.requires.whole _ c.requires.room c.put_network_head-links.ensures in
    links-fit _ c.requires.whole _ c.requires.room head

pub put_flows-tunnels-requires : goal.put_flows-tunnels-requires
put_flows-tunnels-requires c =
    let head = head-put _ c.requires.whole _ c.requires.room c.put_network_head-links.ensures in
    flows-fit _ c.requires.whole _ c.requires.room (links-put _ c.requires.whole _ c.requires.room head c.put_links-flows.ensures)

pub put_tunnels-requires : goal.put_tunnels-requires
put_tunnels-requires c =
    let head = head-put _ c.requires.whole _ c.requires.room c.put_network_head-links.ensures in
    let links = links-put _ c.requires.whole _ c.requires.room head c.put_links-flows.ensures in
    tunnels-fit _ c.requires.whole _ c.requires.room (flows-put _ c.requires.whole _ c.requires.room links c.put_flows-tunnels.ensures)

pub returns : goal.returns
returns c =
    let head = head-put _ c.requires.whole _ c.requires.room c.put_network_head-links.ensures in
    let links = links-put _ c.requires.whole _ c.requires.room head c.put_links-flows.ensures in
    let flows = flows-put _ c.requires.whole _ c.requires.room links c.put_flows-tunnels.ensures in
    tunnels-put _ c.requires.whole _ c.requires.room flows c.put_tunnels.ensures
