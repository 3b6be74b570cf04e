-- `bound::by_card` meets its contract: each return is a case of the definition.

use mathlib.Core.Path.{ap, sym, ◌∙◌}
use native.Mathlib.Omega.{arith}
use Rattle.std.specs.declared.result.Result.TheVariants.{Ok, Err}
use Rattle.bound.specs.Bound.{told}
use Rattle.bound.proofs.Laws.{one_more, scratch-out, no-overrun, overrun-out, with-overrun}
use Rattle.bound.proofs.by_card.Goals as goal

pub returns-then-not-is_share : goal.returns-then-not-is_share
returns-then-not-is_share c =
    ap Err c.outside.ensures
    ∙ sym (ap told (scratch-out _ _ (sym c.is_share.ensures ∙ c.if-not-is_share.true)))

pub returns-then-overrun-eq0 : goal.returns-then-overrun-eq0
returns-then-overrun-eq0 c =
    ap Ok c.entry-steps.ensures
    ∙ sym (ap told (no-overrun _ _ (sym c.is_share.ensures ∙ c.if-not-is_share.false) c.if-overrun-eq0.true))

pub returns-then-not-is_share-2 : goal.returns-then-not-is_share-2
returns-then-not-is_share-2 c =
    ap Err c.outside-then-not-is_share-2.ensures
    ∙ sym (ap told (overrun-out _ _ (sym c.is_share.ensures ∙ c.if-not-is_share.false) c.if-overrun-eq0.false
    (sym c.is_share-2.ensures ∙ c.if-not-is_share-2.true)))

pub returns : goal.returns
returns c =
    let o = sym c.is_share-2.ensures ∙ c.if-not-is_share-2.false in
    let e = with-overrun c.args.scratch c.args.overrun (sym c.is_share.ensures ∙ c.if-not-is_share.false) o in
    let p = c.entry.ensures in
    let q = one_more c.args.overrun o in
    let r = c.entry-steps.ensures in
    grind (arith, e, p, q, r)
