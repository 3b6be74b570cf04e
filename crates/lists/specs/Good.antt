-- What a list that is judged good says of its numbers.
use Rattle.std.specs.Prelude.{ℕ, ◌+◌, ◌*◌, ◌^◌, ◌≤◌, ◌<◌, ◌≡◌, ◌⊎◌, List, length}
use Rattle.std.proofs.Math.Option.{none}
use Rattle.model.specs.Limits.{most_links, most_flows, most_tunnels, most_steps, most_amount, newest_edition, least_share, most_share}
use Rattle.model.specs.Rule.{missed_rate}
use Rattle.lists.specs.declared.Network.{Network}
use Rattle.lists.specs.declared.Position.{Position}
use Rattle.lists.specs.declared.Position.TheVariants.{Link, Flow, Tunnel, Past}
use Rattle.lists.specs.Lists.{at, per_link, per_flow, next_in, network_sizes, link_at, flow_at, tunnel_at, network_size, held_of, network_of, plan_sizes, row_at, plan_size}

-- counts within the limits
pub record Limited (n : Network) : Type 0 where
  pub links : n.links ≤ most_links
  pub flows : n.flows ≤ most_flows
  pub tunnels : n.tunnels ≤ most_tunnels

-- what stands at position i, after the head
abbrev pub StandsAt : Network → ℕ → Position → Type 0
StandsAt n i (Link k j) = (k < n.links) × (j < per_link n.edition) × (i ≡ link_at n k + j)
StandsAt n i (Flow f j) = (f < n.flows) × (j < per_flow n.edition) × (i ≡ flow_at n f + j)
StandsAt n i (Tunnel t j) = (t < n.tunnels) × (j < 4) × (i ≡ tunnel_at n t + j)
StandsAt n i Past = network_size n ≤ i

-- a list that is as long as its own counts say, and those are within the limits
pub record Sized (l : List ℕ) : Type 0 where
  pub counts : Limited (network_sizes l)
  pub size : length l ≡ network_size (network_sizes l)

-- the numbers of the first so many links, flows or tunnels are in their ranges
pub record LinksIn (l : List ℕ) (count : ℕ) : Type 0 where
  pub cap : (k : ℕ) → k < count → at l (link_at (network_sizes l) k) ≤ most_amount
  pub held : (k : ℕ) → k < count → held_of l k ≤ at l (link_at (network_sizes l) k)

pub record FlowsIn (l : List ℕ) (count : ℕ) : Type 0 where
  pub class : (f : ℕ) → f < count → at l (flow_at (network_sizes l) f) ≤ 2
  pub rate : (f : ℕ) → f < count → at l (flow_at (network_sizes l) f + 1) ≤ most_amount
  pub next : (f : ℕ) → f < count → at l (flow_at (network_sizes l) f + next_in (network_sizes l).edition) ≤ most_amount

pub record TunnelsIn (l : List ℕ) (count : ℕ) : Type 0 where
  pub flow : (t : ℕ) → t < count → at l (tunnel_at (network_sizes l) t) < (network_sizes l).flows
  pub via : (t : ℕ) → t < count → (1 ≤ at l (tunnel_at (network_sizes l) t + 1)) × (at l (tunnel_at (network_sizes l) t + 1) < 2 ^ (network_sizes l).links)
  pub old : (t : ℕ) → t < count → at l (tunnel_at (network_sizes l) t + 2) ≤ most_amount
  pub new : (t : ℕ) → t < count → at l (tunnel_at (network_sizes l) t + 3) ≤ most_amount

-- all numbers of a network are
pub record NetworkRanges (l : List ℕ) : Type 0 where
  pub edition : (1 ≤ at l 0) × (at l 0 ≤ newest_edition)
  pub scratch : (least_share ≤ at l 1) × (at l 1 ≤ most_share)
  pub overrun : (at l 2 ≡ 0) ⊎ ((least_share ≤ at l 2) × (at l 2 ≤ most_share))
  pub sized : Sized l
  pub some : 1 ≤ (network_sizes l).links
  pub links : LinksIn l (network_sizes l).links
  pub flows : FlowsIn l (network_sizes l).flows
  pub tunnels : TunnelsIn l (network_sizes l).tunnels

-- and each flow's amounts add up
pub record GoodNetwork (l : List ℕ) : Type 0 where
  pub ranges : NetworkRanges l
  pub sums : missed_rate (network_of l) ≡ none

pub record GoodPlan (l : List ℕ) : Type 0 where
  pub size : length l ≡ plan_size (plan_sizes l)
  pub edition : at l 0 ≡ 1
  pub parts : (1 ≤ (plan_sizes l).parts) × ((plan_sizes l).parts ≤ most_steps)
  pub steps : (1 ≤ (plan_sizes l).steps) × ((plan_sizes l).steps ≤ most_steps)
  pub tunnels : (plan_sizes l).tunnels ≤ most_tunnels
  pub amounts : (i : ℕ) → row_at (plan_sizes l) 1 ≤ i → i < length l → at l i ≤ most_amount * (plan_sizes l).parts
