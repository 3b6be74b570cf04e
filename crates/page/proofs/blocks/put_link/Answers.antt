-- `page::blocks::put_link` meets its contract.
use Prim.Native.Nat.{◌+◌}
use mathlib.Core.Path.{◌≡◌, refl}
use native.Mathlib.Numerals.{add-one}
use Rattle.lists.specs.Lists.{network_of, plan_of}
use Rattle.fields.specs.Columns.{numbers}
use Rattle.fields.specs.Inner.{Fits}
use Rattle.page.specs.Page.{link_fields}
use Rattle.page.proofs.Sizes.{link-line}
use Rattle.page.proofs.blocks.put_link.Goals as goal
use Rattle.page.proofs.blocks.put_link.Goals.{After-on_link-worst}

-- the numbers of the line
fields : (c : After-on_link-worst)
    → let a = c.args in
    let w = c.on_link-worst.result in
    Fits (a.i + 1) a.l c.capacity-cap.result w.protected w.all
    × (numbers (a.i + 1) a.l c.capacity-cap.result w.protected w.all ≡ link_fields (network_of a.pair.now.network) (plan_of a.pair.now.plan) a.i a.l)
fields c =
    let r = c.requires in
    link-line _ _ r.0 _ r.1 _ r.2 (add-one _) refl c.capacity-cap.ensures c.on_link-worst.ensures.0 c.on_link-worst.ensures.1

pub put_line-requires : goal.put_line-requires
put_line-requires c = ((fields ((goal.at.put_line-requires c).After-on_link-worst)).0, c.requires.3)

pub returns : goal.returns
returns c = rw (fields ((goal.at.returns c).After-on_link-worst)).1 at c.put_line.ensures
