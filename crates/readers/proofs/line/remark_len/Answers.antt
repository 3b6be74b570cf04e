-- `readers::line::remark_len` meets its contract.
use Rattle.std.proofs.Common.{◌<◌, length, sym, ◌∙◌, arith}
use Rattle.readers.proofs.Remarks.{unfed-start, unfed-more, remark-many, remark-cut, remark-fits, remark-long}
use Rattle.readers.proofs.line.remark_len.Goals as goal

pub returns-then-before-ge-REMARKS : goal.returns-then-before-ge-REMARKS
returns-then-before-ge-REMARKS c = sym (remark-many _ _ c.if-before-ge-REMARKS.true)

pub loop-n-init : goal.loop-n-init
loop-n-init c = record { unfed = unfed-start _ c.requires }

pub returns-in-None : goal.returns-in-None
returns-in-None c = sym (remark-cut _ _ _ c.loop-n.invariant.unfed (omega (arith, c.loop-n.invariant.unfed.within, c.in-None.ensures.lookup)))

pub returns-in-Some-eq10 : goal.returns-in-Some-eq10
returns-in-Some-eq10 c =
    let h : c.loop-n.n < length c.args.text.now = omega (arith, c.in-Some-eq10.ensures.lookup) in
    sym (remark-fits _ _ _ c.loop-n.invariant.unfed h (sym (c.in-Some-eq10.ensures.lookup.3.1 0) ∙ c.in-Some-eq10.field-0-test) c.loop-n.auto.n (omega arith) (omega arith))

pub loop-n-preserved : goal.loop-n-preserved
loop-n-preserved c =
    let h : c.loop-n.n < length c.args.text.now = omega (arith, c.in-Some.ensures.lookup) in
    record { unfed = unfed-more _ _ c.loop-n.invariant.unfed h (λ e. c.in-Some.field-0-test.1 (c.in-Some.ensures.lookup.3.1 0 ∙ e)) }

pub returns : goal.returns
returns c = sym (remark-long _ _ _ c.loop-n.invariant.unfed (omega arith))
