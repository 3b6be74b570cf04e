-- The edges P1 to P12 hold: they are computed.
use mathlib.Core.Path.{◌≡◌, refl}
use mathlib.Core.Bool.{true}
use mathlib.Core.List.{flatten}
use mathlib.Core.Option.{or_else, Option-elim}
use Rattle.model.specs.Sum.{sum_over}
use Rattle.model.specs.Largest.{largest}
use Rattle.model.specs.Search.{only_if, is_none, first}
use Rattle.model.specs.Net.{row}
use Rattle.model.specs.Scan.{scan, test_link, test}
use Rattle.model.specs.Rule.{crosses, across, by_flow, movers, mover_of, flow_of, on_link, counts, load, exceeds, flow_sum, missed_by, missed_rate, between, missed_in, missed_row, step_count, reach, worst, worst_over, first_overload, accepted, mark}
use Rattle.model.specs.Even.{even_row, even, fewest, ceil_div, step_bound}
use Rattle.model.specs.Listed.{listed}
use Rattle.lists.specs.Lists.{head_size, per_link, per_flow, network_sizes, link_at, flow_at, next_in, tunnel_at, held_of, network_of, plan_of}
use Rattle.bound.specs.Bound.{bound_of}
use Rattle.forms.specs.Form.{network_body, field_of}
use Rattle.forms.specs.Read.{walk, judge_numbers, add_up}
use Rattle.planner.specs.Planned.{even_list, stuck, even_plan, planned}
use Rattle.product.specs.Edges.{edges, same, numbers, hold}

pub edges-hold : hold edges ≡ true
unfolding edges same numbers hold bound_of step_bound ceil_div planned even_plan Option-elim flatten stuck even_list listed judge_numbers walk field_of network_body add_up head_size per_link per_flow network_sizes link_at flow_at next_in tunnel_at held_of network_of plan_of missed_rate missed_by missed_row between missed_in flow_sum fewest accepted even even_row first_overload step_count scan test_link test worst_over exceeds load counts worst largest reach on_link by_flow movers mover_of flow_of across crosses mark row sum_over only_if is_none or_else first
edges-hold = refl
