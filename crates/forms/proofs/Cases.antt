-- The session's network text, read and written by the definitions, and texts that are refused: antt computes each.
use mathlib.Core.Path.{◌≡◌, refl}
use mathlib.Core.List.{List, [], ◌∷◌, ◌++◌, flatten, flat_map}
use mathlib.Core.Option.{or_else, Option-elim}
use Prim.Native.Nat.{ℕ, ◌-◌}
use lib.ListN.{replicate}
use Rattle.model.specs.Outcome.{Outcome, good, refused}
use Rattle.model.specs.declared.Cause.TheVariants.{Malformed as malformed, OutOfRange as out_of_range, Missing as missing, MissedRate as missed_rate}
use Rattle.model.specs.Sum.{sum_over}
use Rattle.model.specs.Search.{only_if, first}
use Rattle.model.specs.Rule as rule
use Rattle.lists.specs.Lists.{head_size, per_link, per_flow, network_of, network_sizes, link_at, flow_at, next_in, tunnel_at}
use Rattle.forms.specs.Bytes.{bytes}
use Rattle.forms.specs.Line.{lines, on_first, fits, plain, value_part, before_feed, digit_of, number_from, decimal_of, hex_of}
use Rattle.forms.specs.Form.{field_of, network_body, rules_body}
use Rattle.forms.specs.Read.{walk, number_in, first_bad, read_lines, add_up}
use Rattle.forms.specs.Write.{render, render_from, digits_in, width_of, width_from}
use Rattle.forms.specs.declared.form.Form.TheVariants.{Network, Plan, Rules}
use Rattle.forms.specs.Named.{read_network, read_plan, read_rules}

-- "One session in full"
abbrev head : List ℕ
head = bytes "net=1\nscratch=333\noverrun=0\nlinks=2\nflows=2\ntunnels=4\n"

abbrev flows : List ℕ
flows = bytes "class=0\nrate=10\nclass=0\nrate=10\n"

abbrev tunnels : List ℕ
tunnels =
    bytes "flow=0\nvia=0000000000000001\nold=10\nnew=0\nflow=0\nvia=0000000000000002\nold=0\nnew=10\n"
    ++ bytes "flow=1\nvia=0000000000000002\nold=10\nnew=0\nflow=1\nvia=0000000000000001\nold=0\nnew=10\n"

session : List ℕ
session = head ++ (bytes "cap=15\ncap=15\n" ++ (flows ++ tunnels))

network : List ℕ
network = 1 ∷ 333 ∷ 0 ∷ 2 ∷ 2 ∷ 4 ∷ 15 ∷ 15 ∷ 0 ∷ 10 ∷ 0 ∷ 10 ∷ 0 ∷ 1 ∷ 10 ∷ 0 ∷ 0 ∷ 2 ∷ 0 ∷ 10 ∷ 1 ∷ 2 ∷ 10 ∷ 0 ∷ 1 ∷ 1 ∷ 0 ∷ 10 ∷ []

reads : read_network session ≡ good network
unfolding network session read_lines walk number_in first_bad plain flat_map lines on_first value_part before_feed digit_of number_from decimal_of hex_of field_of network_body head_size per_link per_flow network_sizes link_at flow_at next_in tunnel_at add_up network_of rule.missed_rate rule.missed_by rule.flow_sum sum_over only_if or_else first Option-elim
reads = refl

writes : render Network network ≡ session
unfolding network session render render_from digits_in width_of width_from field_of network_body head_size per_link per_flow network_sizes link_at flow_at tunnel_at
writes = refl

-- "Empty network text: 3 at line 1. `cap=007`: 1. `cap=10000001`: 2."
empty-text : read_network [] ≡ refused missing 1 0
unfolding read_lines walk number_in first_bad plain flat_map lines field_of network_body head_size per_link per_flow network_sizes link_at flow_at tunnel_at
empty-text = refl

leading-zero : read_network (head ++ bytes "cap=007\n") ≡ refused malformed 7 0
unfolding read_lines walk number_in first_bad plain flat_map lines on_first value_part before_feed digit_of number_from decimal_of hex_of field_of network_body head_size per_link per_flow network_sizes link_at flow_at tunnel_at Option-elim
leading-zero = refl

large-cap : read_network (head ++ bytes "cap=10000001\n") ≡ refused out_of_range 7 0
unfolding read_lines walk number_in first_bad plain flat_map lines on_first value_part before_feed digit_of number_from decimal_of hex_of field_of network_body head_size per_link per_flow network_sizes link_at flow_at tunnel_at Option-elim
large-cap = refl

wrong-key : read_network (head ++ bytes "cup=7\n") ≡ refused malformed 7 0
unfolding read_lines walk number_in first_bad plain flat_map lines on_first value_part before_feed digit_of number_from decimal_of hex_of field_of network_body head_size per_link per_flow network_sizes link_at flow_at tunnel_at Option-elim
wrong-key = refl

-- `flow` when `flows` is 0
no_flow : read_network (bytes "net=1\nscratch=20\noverrun=20\nlinks=1\nflows=0\ntunnels=1\ncap=0\nflow=0\n") ≡ refused out_of_range 8 0
unfolding read_lines walk number_in first_bad plain flat_map lines on_first value_part before_feed digit_of number_from decimal_of hex_of field_of network_body head_size per_link per_flow network_sizes link_at flow_at tunnel_at Option-elim
no_flow = refl

-- a missing last line feed, and bytes after the last line
no-feed : read_plan (bytes "plan=1\nparts=1\nsteps=1\ntunnels=0") ≡ refused malformed 4 1
unfolding read_lines walk number_in first_bad plain flat_map lines on_first value_part before_feed digit_of number_from decimal_of hex_of field_of Option-elim
no-feed = refl

more_bytes : read_plan (bytes "plan=1\nparts=1\nsteps=1\ntunnels=0\n\n") ≡ refused missing 5 1
unfolding read_lines walk number_in first_bad plain flat_map lines on_first value_part before_feed digit_of number_from decimal_of hex_of field_of Option-elim
more_bytes = refl

-- a flow's new amounts miss its rate
missed-new : read_network (bytes "net=1\nscratch=20\noverrun=0\nlinks=1\nflows=1\ntunnels=1\ncap=0\nclass=2\nrate=5\nflow=0\nvia=0000000000000001\nold=5\nnew=4\n") ≡ refused missed_rate 0 1
unfolding read_lines walk number_in first_bad plain flat_map lines on_first value_part before_feed digit_of number_from decimal_of hex_of field_of network_body head_size per_link per_flow network_sizes link_at flow_at next_in tunnel_at add_up network_of rule.missed_rate rule.missed_by rule.flow_sum sum_over only_if or_else first Option-elim
missed-new = refl

-- ---- edition 2: "each flow's `rate` is followed by `next`"

changed : List ℕ
changed = bytes "net=2\nscratch=20\noverrun=0\nlinks=1\nflows=1\ntunnels=1\ncap=20\nclass=2\nrate=10\nnext=20\nflow=0\nvia=0000000000000001\nold=10\nnew=20\n"

changed-network : List ℕ
changed-network = 2 ∷ 20 ∷ 0 ∷ 1 ∷ 1 ∷ 1 ∷ 20 ∷ 2 ∷ 10 ∷ 20 ∷ 0 ∷ 1 ∷ 10 ∷ 20 ∷ []

reads-next : read_network changed ≡ good changed-network
unfolding changed changed-network read_lines walk number_in first_bad plain flat_map lines on_first value_part before_feed digit_of number_from decimal_of hex_of field_of network_body head_size per_link per_flow network_sizes link_at flow_at next_in tunnel_at add_up network_of rule.missed_rate rule.missed_by rule.flow_sum sum_over only_if or_else first Option-elim
reads-next = refl

writes-next : render Network changed-network ≡ changed
unfolding changed changed-network render render_from digits_in width_of width_from field_of network_body head_size per_link per_flow network_sizes link_at flow_at tunnel_at
writes-next = refl

-- new amounts that miss the next
missed-next : read_network (bytes "net=2\nscratch=20\noverrun=0\nlinks=1\nflows=1\ntunnels=1\ncap=0\nclass=2\nrate=5\nnext=4\nflow=0\nvia=0000000000000001\nold=5\nnew=5\n") ≡ refused missed_rate 0 1
unfolding read_lines walk number_in first_bad plain flat_map lines on_first value_part before_feed digit_of number_from decimal_of hex_of field_of network_body head_size per_link per_flow network_sizes link_at flow_at next_in tunnel_at add_up network_of rule.missed_rate rule.missed_by rule.flow_sum sum_over only_if or_else first Option-elim
missed-next = refl

-- a next that is missing in edition 2, and one in edition 1
no-next : read_network (bytes "net=2\nscratch=20\noverrun=0\nlinks=1\nflows=1\ntunnels=0\ncap=0\nclass=2\nrate=0\n") ≡ refused missing 10 0
unfolding read_lines walk number_in first_bad plain flat_map lines on_first value_part before_feed digit_of number_from decimal_of hex_of field_of network_body head_size per_link per_flow network_sizes link_at flow_at tunnel_at Option-elim
no-next = refl

early-next : read_network (bytes "net=1\nscratch=20\noverrun=0\nlinks=1\nflows=1\ntunnels=0\ncap=0\nclass=2\nrate=0\nnext=0\n") ≡ refused missing 10 0
unfolding read_lines walk number_in first_bad plain flat_map lines on_first value_part before_feed digit_of number_from decimal_of hex_of field_of network_body head_size per_link per_flow network_sizes link_at flow_at tunnel_at Option-elim
early-next = refl

large-next : read_network (bytes "net=2\nscratch=20\noverrun=0\nlinks=1\nflows=1\ntunnels=0\ncap=0\nclass=2\nrate=0\nnext=10000001\n") ≡ refused out_of_range 10 0
unfolding read_lines walk number_in first_bad plain flat_map lines on_first value_part before_feed digit_of number_from decimal_of hex_of field_of network_body head_size per_link per_flow network_sizes link_at flow_at tunnel_at Option-elim
large-next = refl

-- no other edition
edition-0 : read_network (bytes "net=0\nscratch=20\n") ≡ refused out_of_range 1 0
unfolding read_lines walk number_in first_bad plain flat_map lines on_first value_part before_feed digit_of number_from decimal_of hex_of field_of network_body head_size per_link per_flow network_sizes link_at flow_at tunnel_at Option-elim
edition-0 = refl

edition-4 : read_network (bytes "net=4\nscratch=20\n") ≡ refused out_of_range 1 0
unfolding read_lines walk number_in first_bad plain flat_map lines on_first value_part before_feed digit_of number_from decimal_of hex_of field_of network_body head_size per_link per_flow network_sizes link_at flow_at tunnel_at Option-elim
edition-4 = refl

-- ---- edition 3: "`unit` 0 or 1 after `overrun`, and with `held` 0..cap after each `cap`"

held : List ℕ
held = bytes "net=3\nscratch=20\noverrun=0\nunit=1\nlinks=2\nflows=1\ntunnels=1\ncap=20\nheld=0\ncap=7\nheld=7\nclass=2\nrate=10\nnext=20\nflow=0\nvia=0000000000000001\nold=10\nnew=20\n"

held-network : List ℕ
held-network = 3 ∷ 20 ∷ 0 ∷ 1 ∷ 2 ∷ 1 ∷ 1 ∷ 20 ∷ 0 ∷ 7 ∷ 7 ∷ 2 ∷ 10 ∷ 20 ∷ 0 ∷ 1 ∷ 10 ∷ 20 ∷ []

reads_held : read_network held ≡ good held-network
unfolding held held-network read_lines walk number_in first_bad plain flat_map lines on_first value_part before_feed digit_of number_from decimal_of hex_of field_of network_body head_size per_link per_flow network_sizes link_at flow_at next_in tunnel_at add_up network_of rule.missed_rate rule.missed_by rule.flow_sum sum_over only_if or_else first Option-elim
reads_held = refl

writes-held : render Network held-network ≡ held
unfolding held held-network render render_from digits_in width_of width_from field_of network_body head_size per_link per_flow network_sizes link_at flow_at tunnel_at
writes-held = refl

-- held above the capacity before it: "above: 2 at the `held` line"; a unit above 1; a unit that is missing, and one in edition 2
large-held : read_network (bytes "net=3\nscratch=20\noverrun=0\nunit=0\nlinks=2\nflows=0\ntunnels=0\ncap=9\nheld=9\ncap=7\nheld=8\n") ≡ refused out_of_range 11 0
unfolding read_lines walk number_in first_bad plain flat_map lines on_first value_part before_feed digit_of number_from decimal_of hex_of field_of network_body head_size per_link per_flow network_sizes link_at flow_at tunnel_at Option-elim
large-held = refl

large-unit : read_network (bytes "net=3\nscratch=20\noverrun=0\nunit=2\n") ≡ refused out_of_range 4 0
unfolding read_lines walk number_in first_bad plain flat_map lines on_first value_part before_feed digit_of number_from decimal_of hex_of field_of network_body head_size per_link per_flow network_sizes link_at flow_at tunnel_at Option-elim
large-unit = refl

no-unit : read_network (bytes "net=3\nscratch=20\noverrun=0\nlinks=2\n") ≡ refused malformed 4 0
unfolding read_lines walk number_in first_bad plain flat_map lines on_first value_part before_feed digit_of number_from decimal_of hex_of field_of network_body head_size per_link per_flow network_sizes link_at flow_at tunnel_at Option-elim
no-unit = refl

early-unit : read_network (bytes "net=2\nscratch=20\noverrun=0\nunit=0\n") ≡ refused malformed 4 0
unfolding read_lines walk number_in first_bad plain flat_map lines on_first value_part before_feed digit_of number_from decimal_of hex_of field_of network_body head_size per_link per_flow network_sizes link_at flow_at tunnel_at Option-elim
early-unit = refl

-- ---- remarks

-- a plan text, a remark of n bytes before its line feed, and n remarks
short : List ℕ
short = bytes "plan=1\nparts=1\nsteps=1\ntunnels=0\n"

remark : ℕ → List ℕ
remark n = 35 ∷ (replicate (n - 1) 46 ++ (10 ∷ []))

many : ℕ → List ℕ
many n = flatten (replicate n (remark 1))

-- texts, each with what it is read as
abbrev got : (List ℕ → Outcome (List ℕ)) → List (List ℕ × Outcome (List ℕ)) → List (Outcome (List ℕ))
got read [] = []
got read (c ∷ cs) = read c.0 ∷ got read cs

abbrev said : List (List ℕ × Outcome (List ℕ)) → List (Outcome (List ℕ))
said [] = []
said (c ∷ cs) = c.1 ∷ said cs

abbrev Read : (List ℕ → Outcome (List ℕ)) → List (List ℕ × Outcome (List ℕ)) → Type 0
Read read cases = got read cases ≡ said cases

abbrev numbers : Outcome (List ℕ)
numbers = good (1 ∷ 1 ∷ 1 ∷ 0 ∷ [])

-- remarks in order: first, between and last; of up to 80 bytes; up to 32 of them, and any byte but the line feed
in_order : Read read_plan (
    (remark 80 ++ short, numbers)
    ∷ (bytes "plan=1\n#\nparts=1\n#=1\n# why\nsteps=1\ntunnels=0\n", numbers)
    ∷ (short ++ remark 79, numbers)
    ∷ (many 16 ++ (short ++ many 16), numbers)
    ∷ [])
unfolding short remark many read_lines walk number_in first_bad plain flat_map lines on_first flatten fits value_part before_feed digit_of number_from decimal_of hex_of field_of add_up Option-elim
in_order = refl

-- one of 81 bytes, a 33rd and one that the text's end cuts meet 1 at their own line
out_of_order : Read read_plan (
    (remark 81 ++ short, refused malformed 1 1)
    ∷ (short ++ remark 81, refused malformed 5 1)
    ∷ (many 33 ++ short, refused malformed 33 1)
    ∷ (many 16 ++ (short ++ many 17), refused malformed 37 1)
    ∷ (short ++ bytes "# why", refused malformed 5 1)
    ∷ [])
unfolding short remark many read_lines walk number_in first_bad plain flat_map lines on_first flatten fits value_part before_feed digit_of number_from decimal_of hex_of field_of Option-elim
out_of_order = refl

-- the first line that is not in order is named, remark or not, by its number in the text
first-named : Read read_plan (
    (remark 1, refused missing 2 1)
    ∷ (bytes "# why\nplan=1\nparts=01\n" ++ remark 81, refused malformed 3 1)
    ∷ (bytes "# why\nplan=1\nparts=51\n" ++ remark 81, refused out_of_range 3 1)
    ∷ (bytes "plan=1\n" ++ (remark 81 ++ bytes "parts=51\n"), refused malformed 2 1)
    ∷ (short ++ bytes "# why\nat=1\n", refused missing 6 1)
    ∷ (short ++ bytes " # why\n", refused missing 5 1)
    ∷ [])
unfolding short remark many read_lines walk number_in first_bad plain flat_map lines on_first flatten fits value_part before_feed digit_of number_from decimal_of hex_of field_of Option-elim
first-named = refl

without : plain Plan (bytes "# why\nplan=1\n#\nparts=1\nsteps=1\n# so\ntunnels=0\n# cut") ≡ short
unfolding short lines on_first plain flat_map flatten
without = refl

-- ---- rule tables

tables : List ℕ
tables = bytes "rules=1\nslack=500\nswitches=2\ntunnels=1\nroom=65535\nroom=0\n"

rules : List ℕ
rules = 1 ∷ 500 ∷ 2 ∷ 1 ∷ 65535 ∷ 0 ∷ 3 ∷ 2 ∷ []

rules-written : render Rules rules ≡ tables ++ bytes "via=0000000000000003\nkind=2\n"
unfolding rules tables render render_from digits_in width_of width_from field_of rules_body
rules-written = refl

-- there are no remarks: a line that begins with `#` is not in its form, or one too many
rules-read : Read read_rules (
    (tables ++ bytes "via=0000000000000003\nkind=2\n", good rules)
    ∷ ([], refused missing 1 2)
    ∷ (bytes "# why\nrules=1\n", refused malformed 1 2)
    ∷ (tables ++ bytes "via=0000000000000003\nkind=2\n#\n", refused missing 9 2)
    ∷ (tables ++ bytes "via=3\nkind=2\n", refused malformed 7 2)
    ∷ (tables ++ bytes "via=0000000000000004\nkind=2\n", refused out_of_range 7 2)
    ∷ (tables ++ bytes "via=0000000000000003\nkind=4\n", refused out_of_range 8 2)
    ∷ (tables ++ bytes "via=0000000000000003\nkind=2", refused malformed 8 2)
    ∷ [])
unfolding rules tables read_lines walk number_in first_bad plain flat_map lines on_first fits value_part before_feed digit_of number_from decimal_of hex_of field_of rules_body add_up Option-elim
rules-read = refl
