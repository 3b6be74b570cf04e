-- How a list of numbers is seen as a network, as a plan or as rule tables. "Either text is also held as a list of 64-bit numbers, one for each line in line order."
use Rattle.std.specs.Prelude.{ℕ, ◌+◌, ◌-◌, ◌*◌, Bool, cond, List, leb, get_or}
use Rattle.model.specs.Limits.{most_links, most_flows, most_tunnels, most_steps, newest_edition, most_switches}
use Rattle.model.specs.Net.{Net, Plan}
use Rattle.lists.specs.declared.Network.{Network}
use Rattle.lists.specs.declared.PlanSizes.{PlanSizes}
use Rattle.lists.specs.declared.RuleTables.{RuleTables}

-- the number at a position
abbrev pub at : List ℕ → ℕ → ℕ
at l i = get_or l i 0

-- ---- a network

-- "In edition `net=2` each flow's `rate` is followed by `next`"
abbrev pub has_next : ℕ → Bool
has_next edition = leb 2 edition

-- "Edition `net=3` is edition 2 with `unit` 0 or 1 after `overrun`, and with `held` 0..cap after each `cap`"
abbrev pub has_held : ℕ → Bool
has_held edition = leb 3 edition

-- how many lines there are by edition: in the head, for a link and for a flow
unfoldable pub head_size : ℕ → ℕ
head_size edition = cond (has_held edition) 7 6

unfoldable pub per_link : ℕ → ℕ
per_link edition = cond (has_held edition) 2 1

unfoldable pub per_flow : ℕ → ℕ
per_flow edition = cond (has_next edition) 3 2

-- which line of a flow is its `next`: the last; in edition 1, which is "read as if `next` equalled `rate`", that is its rate
unfoldable pub next_in : ℕ → ℕ
next_in edition = per_flow edition - 1

-- its edition, and how many links, flows and tunnels it has: the last numbers of the head
unfoldable pub network_sizes : List ℕ → Network
network_sizes l = record { edition = at l 0; links = at l (head_size (at l 0) - 3); flows = at l (head_size (at l 0) - 2); tunnels = at l (head_size (at l 0) - 1) }

-- after the head, where the lines of link k begin, those of flow f and the four of tunnel t; and how many lines there are
unfoldable pub link_at : Network → ℕ → ℕ
link_at n k = head_size n.edition + per_link n.edition * k

unfoldable pub flow_at : Network → ℕ → ℕ
flow_at n f = link_at n n.links + per_flow n.edition * f

unfoldable pub tunnel_at : Network → ℕ → ℕ
tunnel_at n t = flow_at n n.flows + 4 * t

abbrev pub network_size : Network → ℕ
network_size n = tunnel_at n n.tunnels

-- what is held of link k: "Older editions have `unit` and `held` 0"
unfoldable pub held_of : List ℕ → ℕ → ℕ
held_of l k = cond (has_held (at l 0)) (at l (link_at (network_sizes l) k + 1)) 0

unfoldable pub network_of : List ℕ → Net
network_of l = record {
  scratch = at l 1;
  overrun = at l 2;
  unit = cond (has_held (at l 0)) (at l 3) 0;
  links = (network_sizes l).links;
  flows = (network_sizes l).flows;
  tunnels = (network_sizes l).tunnels;
  cap = λ k. at l (link_at (network_sizes l) k) - held_of l k;
  class = λ f. at l (flow_at (network_sizes l) f);
  rate = λ f. at l (flow_at (network_sizes l) f + 1);
  next = λ f. at l (flow_at (network_sizes l) f + next_in (network_sizes l).edition);
  flow = λ t. at l (tunnel_at (network_sizes l) t);
  via = λ t. at l (tunnel_at (network_sizes l) t + 1);
  old = λ t. at l (tunnel_at (network_sizes l) t + 2);
  new = λ t. at l (tunnel_at (network_sizes l) t + 3);
}

-- ---- a plan

abbrev pub plan_sizes : List ℕ → PlanSizes
plan_sizes l = record { parts = at l 1; steps = at l 2; tunnels = at l 3 }

-- after the head, where row a begins, of the rows 1 to steps - 1; and how many lines there are
abbrev pub row_at : PlanSizes → ℕ → ℕ
row_at n a = 4 + (a - 1) * n.tunnels

abbrev pub plan_size : PlanSizes → ℕ
plan_size n = row_at n n.steps

unfoldable pub plan_of : List ℕ → Plan
plan_of l = record { parts = (plan_sizes l).parts; steps = (plan_sizes l).steps; at = λ a t. at l (row_at (plan_sizes l) a + t) }

-- ---- rule tables

abbrev pub table_sizes : List ℕ → RuleTables
table_sizes l = record { switches = at l 2; tunnels = at l 3 }

-- after the head, where the line of switch s stands and where the two of tunnel t begin; and how many lines there are
abbrev pub room_at : RuleTables → ℕ → ℕ
room_at n s = 4 + s

abbrev pub rule_at : RuleTables → ℕ → ℕ
rule_at n t = room_at n n.switches + 2 * t

abbrev pub tables_size : RuleTables → ℕ
tables_size n = rule_at n n.tunnels

-- ---- the longest lists

unfoldable pub most_network : ℕ
unfolding head_size per_link per_flow link_at flow_at tunnel_at
most_network = network_size (record { edition = newest_edition; links = most_links; flows = most_flows; tunnels = most_tunnels })

abbrev pub most_plan : ℕ
most_plan = plan_size (record { parts = most_steps; steps = most_steps; tunnels = most_tunnels })

abbrev pub most_tables : ℕ
most_tables = tables_size (record { switches = most_switches; tunnels = most_tunnels })

-- no list of any of the three is longer than a plan's
abbrev pub most_numbers : ℕ
most_numbers = most_plan
