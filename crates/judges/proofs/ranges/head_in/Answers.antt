-- `judges::ranges::head_in` meets its contract.
use mathlib.Core.Path.{◌≡◌, sym, ap, ◌∙◌}
use mathlib.Core.List.{List}
use lib.ListN.{get_or}
use Rattle.std.specs.declared.option.Option.TheVariants.{None}
use Rattle.lists.specs.Lists.{at}
use Rattle.forms.specs.Form.{Field}
use Rattle.judges.specs.Ranges.{head_lines}
use Rattle.judges.proofs.InRange.{head_more, decides-yes, decides-no, no_line, not-allowed}
use Rattle.forms.proofs.Walks.{allows-line}
use native.Mathlib.Omega.{arith}
use Rattle.judges.proofs.ranges.head_in.Goals as goal
use Rattle.judges.proofs.ranges.head_in.Goals.{After-head_line}

-- the line that is looked at is the list's own
own_line : (c : After-head_line) → let a = c.args in get_or (head_lines a.form (at a.list.now 0)) c.loop-i.i None ≡ c.head_line.result
own_line c = ap (λ (fs : List Field). get_or fs c.loop-i.i None) (sym c.requires.1) ∙ sym c.head_line.ensures

pub returns-in_default : goal.returns-in_default
returns-in_default c = decides-no (λ h. no_line _ _ (own_line ((goal.at.returns-in_default c).After-head_line) ∙ c.in_default.is) (h.each c.loop-i.i (omega arith)))

pub loop-i-preserved : goal.loop-i-preserved
loop-i-preserved c = head_more _ _ _ c.loop-i.invariant (allows-line _ _ _ _ (own_line ((goal.at.loop-i-preserved c).After-head_line) ∙ c.in-Some.is) (sym c.admits.ensures ∙ c.if-not-admits.false))

pub returns-then-not-admits : goal.returns-then-not-admits
returns-then-not-admits c = decides-no (λ h. not-allowed _ _ _ _ (own_line ((goal.at.returns-then-not-admits c).After-head_line) ∙ c.in-Some.is) (sym c.admits.ensures ∙ c.if-not-admits.true) (h.each c.loop-i.i (omega arith)))

pub returns : goal.returns
returns c = let e : c.loop-i.i ≡ c.args.count = omega arith in decides-yes (rw (← e) c.loop-i.invariant)
