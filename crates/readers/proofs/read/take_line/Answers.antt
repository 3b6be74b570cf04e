-- `readers::read::take_line` meets its contract.
use Rattle.std.proofs.Common.{◌≡◌, ℕ, List, length, subst, sym, ap, ◌∙◌, eqb-true}
use lib.Dec.{T}
use Rattle.forms.specs.Turns.{no_feeds}
use Rattle.forms.proofs.Keys.{key-no-feed}
use borrow.Author.Tests.{eqb-false}
use Rattle.readers.specs.declared.read.Taken.TheVariants.{Number}
use Rattle.readers.proofs.Reading.{Read, taken-missing, taken-number, taken-outside, none-read, some-read}
use Rattle.readers.proofs.read.take_line.Goals as goal
use Rattle.readers.proofs.read.take_line.Goals.{Else-is_empty, In-Some}

more : (c : Else-is_empty) → length c.args.text.now ≡ 0 → ⊥
more c = eqb-false _ _ (sym c.is_empty.ensures ∙ c.if-is_empty.false)

is : (c : In-Some) → Read c.args.line c.args.text.now c.text-key.result.now c.in-Some.value
is c = some-read _ _ _ c.text-key.ensures _ c.is_hex.ensures _ c.in-Some.ensures

pub returns-then-is_empty : goal.returns-then-is_empty
returns-then-is_empty c = sym (taken-missing _ _ (eqb-true _ _ (sym c.is_empty.ensures ∙ c.if-is_empty.true)))

pub returns-in_default : goal.returns-in_default
returns-in_default c = sym (none-read _ _ _ c.text-key.ensures _ c.is_hex.ensures (more ((goal.at.returns-in_default c).Else-is_empty)) c.in_default.ensures)

pub returns-then-admits : goal.returns-then-admits
returns-then-admits c =
    let r = is ((goal.at.returns-then-admits c).In-Some) in
    ap (λ (n : ℕ). Number c.in-Some.value.number n) r.bytes ∙ sym (taken-number _ _ (more ((goal.at.returns-then-admits c).Else-is_empty)) _ r.value (sym c.admits.ensures ∙ c.if-admits.true))

pub returns-else-admits : goal.returns-else-admits
returns-else-admits c = sym (taken-outside _ _ (more ((goal.at.returns-else-admits c).Else-is_empty)) _ (is ((goal.at.returns-else-admits c).In-Some)).value (sym c.admits.ensures ∙ c.if-admits.false))

pub digits-requires : goal.digits-requires
digits-requires c = subst (λ (t : List ℕ). T (no_feeds t)) (sym c.text-key.ensures) (key-no-feed c.args.line.key)
