-- The cases of the page hold: they are computed.
use mathlib.Core.Path.{◌≡◌, refl}
use mathlib.Core.Bool.{true}
use mathlib.Core.List.{flat_map}
use mathlib.Core.Option.{or_else, Option-elim}
use lib.Count.{ones, ones_in}
use Rattle.model.specs.Sum.{sum_over}
use Rattle.model.specs.Largest.{largest}
use Rattle.model.specs.Search.{only_if, first}
use Rattle.model.specs.Net.{row}
use Rattle.model.specs.Scan.{scan, test_link, test}
use Rattle.model.specs.Rule.{crosses, across, by_flow, movers, flow_of, on_link, counts, load, exceeds, flow_sum, missed_by, missed_rate, between, missed_in, missed_row, step_count, reach, worst, worst_over, first_overload}
use Rattle.model.specs.Listed.{listed}
use Rattle.lists.specs.Lists.{head_size, per_link, per_flow, network_sizes, link_at, flow_at, next_in, tunnel_at, held_of, network_of, plan_of}
use Rattle.forms.specs.Form.{network_body, field_of}
use Rattle.forms.specs.Read.{walk, judge_numbers, add_up}
use Rattle.forms.specs.Write.{digits_in, width_from, width_of}
use Rattle.fields.specs.Columns.{right_in, in_columns, line, digits, numbers}
use Rattle.step_loads.specs.Worst.{worst_load}
use Rattle.page.specs.Page.{link_heading, tunnel_heading, hops, link_fields, tunnel_fields, page_fields, page, step_page, page_of}
use Rattle.page.specs.Cases.{cases, printed, same, hold}

pub cases-hold : hold cases ≡ true
unfolding cases printed same hold page_of step_page page flat_map page_fields tunnel_fields link_fields hops ones ones_in worst_load tunnel_heading link_heading numbers digits digits_in width_of width_from line in_columns right_in listed judge_numbers walk field_of network_body add_up Option-elim head_size per_link per_flow network_sizes link_at flow_at next_in tunnel_at held_of network_of plan_of missed_rate missed_by missed_row between missed_in flow_sum first_overload step_count scan test_link test worst_over exceeds load counts worst largest reach on_link by_flow movers flow_of across crosses row sum_over only_if or_else first
cases-hold = refl
