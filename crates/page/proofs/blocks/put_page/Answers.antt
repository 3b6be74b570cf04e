-- `page::blocks::put_page` meets its contract: its four parts are put one after the other.
use Rattle.lines.specs.Puts.{Puts}
use Rattle.fields.specs.Columns.{right_in, in_columns, line}
use Rattle.page.specs.Page.{link_heading, tunnel_heading}
use Rattle.page.proofs.Pages.{put-links, put_second, put-page}
use native.Mathlib.Omega.{arith}
use Rattle.page.proofs.blocks.put_page.Goals as goal
use Rattle.page.proofs.blocks.put_page.Goals.{After-put-links, After-put-tunnels}

-- the headings are those of the definition
first : (c : After-put-links) → Puts (line link_heading) 0 c.args.out.now c.put-links.new.out c.put-links.result
unfolding link_heading line in_columns right_in
first c = c.put-links.ensures

second : (c : After-put-tunnels) → Puts (line tunnel_heading) c.put_links-heading.result c.put_links-heading.new.out c.put-tunnels.new.out c.put-tunnels.result
unfolding tunnel_heading line in_columns right_in
second c = c.put-tunnels.ensures

pub put-tunnels-requires : goal.put-tunnels-requires
put-tunnels-requires c = let s = c.requires in
    let h = put-links _ _ s.0 _ s.1 s.2 (first ((goal.at.put-tunnels-requires c).After-put-links)) c.put_links-heading.ensures in
    omega (arith, h.same, h.place, s.2)

pub put_tunnels-requires : goal.put_tunnels-requires
put_tunnels-requires c = let s = c.requires in
    let h = put_second _ _ s.0 _ s.1 s.2 (first ((goal.at.put_tunnels-requires c).After-put-links)) c.put_links-heading.ensures (second ((goal.at.put_tunnels-requires c).After-put-tunnels)) in
    omega (arith, h.same, h.place, s.2)

pub returns : goal.returns
returns c = let s = c.requires in
    put-page _ _ s.0 _ s.1 s.2 (first ((goal.at.returns c).After-put-links)) c.put_links-heading.ensures (second ((goal.at.returns c).After-put-tunnels)) c.put_tunnels.ensures
