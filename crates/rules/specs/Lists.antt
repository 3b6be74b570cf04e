-- How a list of numbers, one for each input line in line order, is seen as rule tables.
use Rattle.std.specs.Prelude.{ℕ, ◌+◌, ◌^◌, ◌≤◌, ◌<◌, ◌≡◌, ◌≢◌, List, length}
use Rattle.model.specs.Limits.{most_tunnels, most_switches, most_room, least_share, most_share}
use Rattle.model.specs.Outcome.{Outcome, and_then}
use Rattle.lists.specs.Lists.{at, table_sizes, room_at, rule_at, tables_size}
use Rattle.forms.specs.Read.{judge_list}
use Rattle.forms.specs.declared.form.Form.TheVariants as forms
use Rattle.rules.specs.Rules.{Rules, keep, remove}
use Rattle.rules.specs.Stage.{staged}

-- "Input lines: `rules` 1, `slack` 20..500, `switches` 1..64, `tunnels` 0..96; for each switch `room` 0..65,535; for each tunnel `via` [..] and `kind`"
unfoldable pub rules_of : List ℕ → Rules
rules_of l = record {
  slack = at l 1;
  switches = (table_sizes l).switches;
  tunnels = (table_sizes l).tunnels;
  room = λ s. at l (room_at (table_sizes l) s);
  via = λ t. at l (rule_at (table_sizes l) t);
  kind = λ t. at l (rule_at (table_sizes l) t + 1);
}

-- what staging a list comes to: 18 "after refusals 1 to 3"; a list has no lines, so that it never meets 1
abbrev pub staged_list : List ℕ → Outcome (List ℕ)
staged_list l = and_then (judge_list forms.Rules l) (λ g. staged (rules_of g))

-- what a list that is judged good says of its numbers
pub record GoodRules (l : List ℕ) : Type 0 where
  pub size : length l ≡ tables_size (table_sizes l)
  pub slack : (least_share ≤ at l 1) × (at l 1 ≤ most_share)
  pub switches : (1 ≤ (table_sizes l).switches) × ((table_sizes l).switches ≤ most_switches)
  pub tunnels : (table_sizes l).tunnels ≤ most_tunnels
  pub room : (s : ℕ) → s < (table_sizes l).switches → at l (room_at (table_sizes l) s) ≤ most_room
  pub via : (t : ℕ) → t < (table_sizes l).tunnels → (at l (rule_at (table_sizes l) t) ≢ 0) × (at l (rule_at (table_sizes l) t) < 2 ^ (table_sizes l).switches)
  pub kind : (t : ℕ) → t < (table_sizes l).tunnels → (keep ≤ at l (rule_at (table_sizes l) t + 1)) × (at l (rule_at (table_sizes l) t + 1) ≤ remove)
