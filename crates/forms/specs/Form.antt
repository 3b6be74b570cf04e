-- The three forms: which line stands after some numbers, and which numbers it may have.
use Rattle.std.specs.Prelude.{ℕ, ◌*◌, ◌-◌, ◌%◌, ◌^◌, ◌<◌, Bool, true, false, cond, ◌&&◌, ◌||◌, not, ◌≡◌, List, [], ◌∷◌, length, get_or, take, T, eqb, leb, ltb, Option, None, Some}
use Rattle.model.specs.Limits.{most_links, most_flows, most_tunnels, most_steps, most_amount, newest_edition, least_share, most_share, most_switches, most_room}
use Rattle.lists.specs.Lists.{at, has_next, has_held, network_sizes, link_at, flow_at, tunnel_at, plan_sizes, table_sizes, rule_at, tables_size, most_network, most_plan, most_tables, row_at}
use Rattle.lists.specs.declared.Network.{Network}
use Rattle.lists.specs.declared.PlanSizes.{PlanSizes}
use Rattle.lists.specs.declared.RuleTables.{RuleTables}
use Rattle.forms.specs.declared.form.Form.{Form}
use Rattle.forms.specs.declared.form.Form.TheVariants.{Network as network, Plan as plan, Rules as rules}
use Rattle.forms.specs.declared.form.Key.{Key}
use Rattle.forms.specs.declared.form.Key.TheVariants.{Net, Scratch, Overrun, Links, Flows, Tunnels, Cap, Class, Rate, Flow, Via, Old, New, Plan, Parts, Steps, At, Rules, Slack, Switches, Room, Kind, Next, Unit, Held}
use Rattle.forms.specs.declared.form.Line.{Line}
use Rattle.forms.specs.declared.form.Range.{Range}
use Rattle.forms.specs.declared.form.Range.TheVariants.{Between, ZeroOr, Below, Set}

-- a refusal's second number: "0 network, 1 plan"; of rule tables: "refusals 1 to 3, whose second is 2 for this text"
abbrev pub second_of : Form → ℕ
second_of network = 0
second_of plan = 1
second_of rules = 2

-- "A line of either text that begins with `#` is a remark": of a network or a plan; rule tables have none
abbrev pub has_remarks : Form → Bool
has_remarks network = true
has_remarks plan = true
has_remarks rules = false

-- ---- ranges

-- whether a line may have a number. A set of links is "not zero and no bit at or above `links`"
abbrev pub admits_of : Range → ℕ → Bool
admits_of (Between low high) v = leb low v && leb v high
admits_of (ZeroOr low high) v = eqb v 0 || (leb low v && leb v high)
admits_of (Below n) v = ltb v n
admits_of (Set n) v = not (eqb v 0) && ltb v (2 ^ n)

-- "Values are decimal ..; `via` has exactly 16 lower-case hexadecimal digits": sets are written in hexadecimal
abbrev pub is_hex : Range → Bool
is_hex (Between low high) = false
is_hex (ZeroOr low high) = false
is_hex (Below n) = false
is_hex (Set n) = true

-- ---- the lines of a network, of a plan and of rule tables

-- what stands at a position: a line, or nothing, since the form ends there
abbrev pub Field : Type 0
Field = Option Line

abbrev pub line : Key → Range → Field
line key range = Some (record { key = key; range = range })

-- "`links` 1..64; `flows` 0..32; `tunnels` 0..96"
abbrev pub count_lines : List Field
count_lines = line Links (Between 1 most_links) ∷ line Flows (Between 0 most_flows) ∷ line Tunnels (Between 0 most_tunnels) ∷ []

-- before them, in edition 3, "`unit` 0 or 1 after `overrun`"
abbrev pub unit_lines : ℕ → List Field
unit_lines edition = cond (has_held edition) (line Unit (Between 0 1) ∷ count_lines) count_lines

-- "`net` 1", since the second paper up to 3; "`scratch` 20..500; `overrun` 0 or 20..500"
abbrev pub network_lines : ℕ → List Field
network_lines edition =
    line Net (Between 1 newest_edition) ∷ line Scratch (Between least_share most_share) ∷ line Overrun (ZeroOr least_share most_share) ∷ unit_lines edition

-- "for each link: `cap` 0..10,000,000", in edition 3 "with `held` 0..cap after each `cap`": after the number before
abbrev pub link_lines : ℕ → ℕ → List Field
link_lines edition before = line Cap (Between 0 most_amount) ∷ cond (has_held edition) (line Held (Between 0 before) ∷ []) []

-- "for each flow: `class` 0 interactive, 1 elastic, 2 background; `rate` 0..10,000,000", which "is followed by `next`, with the same range", where there is one
abbrev pub flow_lines : ℕ → List Field
flow_lines edition = line Class (Between 0 2) ∷ line Rate (Between 0 most_amount) ∷ cond (has_next edition) (line Next (Between 0 most_amount) ∷ []) []

-- "for each tunnel: `flow` 0..flows-1; `via` ..; `old` and `new`, each 0..10,000,000"
abbrev pub tunnel_lines : Network → List Field
tunnel_lines n =
    line Flow (Below n.flows) ∷ line Via (Set n.links) ∷ line Old (Between 0 most_amount) ∷ line New (Between 0 most_amount) ∷ []

-- the lines of the links, then those of the flows, then those of the tunnels: after the number before, at position i
unfoldable pub network_body : Network → ℕ → ℕ → Field
network_body n before i =
    cond (ltb i (flow_at n 0)) (get_or (link_lines n.edition before) ((i - link_at n 0) % length (link_lines n.edition before)) None)
    (cond (ltb i (tunnel_at n 0)) (get_or (flow_lines n.edition) ((i - flow_at n 0) % length (flow_lines n.edition)) None)
    (cond (ltb i (tunnel_at n n.tunnels)) (get_or (tunnel_lines n) ((i - tunnel_at n 0) % length (tunnel_lines n)) None) None))

-- "`plan` 1; `parts` 1..50; `steps` 1..50; `tunnels` 0..96"
abbrev pub plan_lines : List Field
plan_lines =
    line Plan (Between 1 1)
    ∷ line Parts (Between 1 most_steps) ∷ line Steps (Between 1 most_steps) ∷ line Tunnels (Between 0 most_tunnels) ∷ []

-- "then for each row 1 to steps-1, for each tunnel, `at` 0..10,000,000 × parts"
abbrev pub plan_body : PlanSizes → ℕ → Field
plan_body n i = cond (ltb i (row_at n n.steps)) (line At (Between 0 (most_amount * n.parts))) None

-- "`rules` 1, `slack` 20..500, `switches` 1..64, `tunnels` 0..96"
abbrev pub rules_lines : List Field
rules_lines =
    line Rules (Between 1 1)
    ∷ line Slack (Between least_share most_share) ∷ line Switches (Between 1 most_switches) ∷ line Tunnels (Between 0 most_tunnels) ∷ []

-- "for each tunnel `via` (a switch set, written as for links) and `kind` 1 keep, 2 add, 3 remove"
abbrev pub rule_lines : RuleTables → List Field
rule_lines n = line Via (Set n.switches) ∷ line Kind (Between 1 3) ∷ []

-- "for each switch `room` 0..65,535"; then the lines of the tunnels
unfoldable pub rules_body : RuleTables → ℕ → Field
rules_body n i =
    cond (ltb i (rule_at n 0)) (line Room (Between 0 most_room))
    (cond (ltb i (tables_size n)) (get_or (rule_lines n) ((i - rule_at n 0) % length (rule_lines n)) None) None)

-- the line that stands after some numbers
unfoldable pub field_of : Form → List ℕ → Field
unfolding network_body rules_body
field_of network l =
    cond (ltb (length l) (length (network_lines (at l 0)))) (get_or (network_lines (at l 0)) (length l) None) (network_body (network_sizes l) (at l (length l - 1)) (length l))
field_of plan l = cond (ltb (length l) (length plan_lines)) (get_or plan_lines (length l) None) (plan_body (plan_sizes l) (length l))
field_of rules l = cond (ltb (length l) (length rules_lines)) (get_or rules_lines (length l) None) (rules_body (table_sizes l) (length l))

-- whether a number may stand in a field
abbrev pub allows : Field → ℕ → Bool
allows (Some x) v = admits_of x.range v
allows None v = false

-- each number is one that its field allows
unfoldable pub Sound : Form → List ℕ → Type 0
unfolding field_of
Sound form l = (i : ℕ) → i < length l → T (allows (field_of form (take i l)) (get_or l i 0))

-- and the form ends with the list
pub record Whole (form : Form) (l : List ℕ) : Type 0 where
  pub sound : Sound form l
  pub ends : field_of form l ≡ None

-- no list that is sound is longer
abbrev pub most_of : Form → ℕ
most_of network = most_network
most_of plan = most_plan
most_of rules = most_tables
