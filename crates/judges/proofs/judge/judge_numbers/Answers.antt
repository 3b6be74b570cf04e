-- `judges::judge::judge_numbers` meets its contract.
use Prim.Native.Nat.{ℕ, ◌<◌, ◌≤◌, ◌+◌}
use mathlib.Core.Path.{◌≡◌, refl, sym, ap, ◌∙◌}
use mathlib.Core.List.{[], ◌∷◌, ◌++◌}
use native.Mathlib.Omega.{arith}
use native.Mathlib.Numerals.{add-one}
use borrow.Author.Tests.{ltb-true, ltb-false}
use lib.ListN.{length, take, get_or}
use lib.Seq.{length-take-le, take-suc}
use Rattle.std.proofs.lemmas.Grind.{get_or_default_zero}
use Rattle.std.specs.declared.result.Result.TheVariants.{Ok}
use Rattle.std.specs.declared.option.Option.TheVariants.{None}
use Rattle.lists.specs.Refusals.{counted}
use Rattle.forms.specs.Form.{line, field_of, admits_of}
use Rattle.forms.specs.Read.{judge_numbers}
use Rattle.forms.proofs.Forms.{room-in-all, sound_more, sound_none}
use Rattle.forms.proofs.Walks.{judge-done, judge-missing, judge-many, judge-outside, judge-more, allows-line}
use borrow.Author.Rules.{rules}
use Rattle.judges.proofs.judge.judge_numbers.Goals as goal
use Rattle.judges.proofs.judge.judge_numbers.Goals.{In-Some, In-Some-get, In_default}

-- what stands at the loop's head: a line, or nothing
is-line : (c : In-Some) → field_of c.args.form (take c.loop-line.i c.args.list.now) ≡ line c.in-Some.line.key c.in-Some.line.range
is-line c = sym c.field_after.ensures ∙ c.in-Some.is

is-end : (c : In_default) → field_of c.args.form (take c.loop-line.i c.args.list.now) ≡ None
is-end c = sym c.field_after.ensures ∙ c.in_default.is

below : (c : In-Some-get) → c.loop-line.i < length c.args.list.now
below c = ltb-true _ _ (sym c.in-Some-get.ensures.lookup.0)

here : (c : In-Some-get) → c.in-Some-get.field-0.now ≡ get_or c.args.list.now c.loop-line.i 0
here c = c.in-Some-get.ensures.lookup.1 ∙ get_or_default_zero _ _ _ (below c)

pub loop-line-init : goal.loop-line-init
unfolding judge_numbers
loop-line-init c = record { within = search rules; few = search rules; sound = sound_none _; rest = refl }

pub returns-in_default-get : goal.returns-in_default-get
returns-in_default-get c =
    let past : length c.args.list.now ≤ c.loop-line.i = ltb-false _ _ (sym c.in_default-get.ensures.lookup.0) in
    rw c.refusal.ensures (sym (ap counted (c.loop-line.invariant.rest ∙ judge-missing _ _ _ _ _ _ _ past (is-line ((goal.at.returns-in_default-get c).In-Some)))))

pub returns-then-not-admits : goal.returns-then-not-admits
returns-then-not-admits c =
    let t = (goal.at.returns-then-not-admits c).In-Some-get in
    let outside = ap (λ (v : ℕ). admits_of c.in-Some.line.range v) (sym (here t)) ∙ sym c.admits.ensures ∙ c.if-not-admits.true in
    rw c.refusal-then-not-admits.ensures (sym (ap counted (c.loop-line.invariant.rest ∙ judge-outside _ _ _ _ _ _ _ (below t) (is-line ((goal.at.returns-then-not-admits c).In-Some)) outside)))

pub loop-line-preserved : goal.loop-line-preserved
loop-line-preserved c =
    let t = (goal.at.loop-line-preserved c).In-Some-get in
    let l = is-line ((goal.at.loop-line-preserved c).In-Some) in
    let a = ap (λ (v : ℕ). admits_of c.in-Some.line.range v) (sym (here t)) ∙ sym c.admits.ensures ∙ c.if-not-admits.false in
    let allowed = allows-line _ _ _ _ l a in
    let more : take (c.loop-line.i + 1) c.args.list.now ≡ take c.loop-line.i c.args.list.now ++ (get_or c.args.list.now c.loop-line.i 0 ∷ []) = rw add-one (take-suc _ _ 0 (below t)) in
    record {
      within = omega (arith, below t);
      few = omega (arith, length-take-le c.loop-line.i c.args.list.now c.loop-line.invariant.within, room-in-all c.args.form (take c.loop-line.i c.args.list.now) _ c.loop-line.invariant.sound allowed);
      sound = rw more (sound_more _ _ _ c.loop-line.invariant.sound allowed);
      rest = rw more (c.loop-line.invariant.rest ∙ judge-more _ _ _ _ _ _ _ (below t) l a);
    }

pub returns-then-i-list : goal.returns-then-i-list
returns-then-i-list c = rw c.refusal-then-i-list.ensures (sym (ap counted (c.loop-line.invariant.rest ∙ judge-many _ _ _ _ _ c.if-i-list.true (is-end ((goal.at.returns-then-i-list c).In_default)))))

pub returns : goal.returns
returns c =
    sym (ap counted (c.loop-line.invariant.rest ∙ judge-done _ _ _ _ _ c.if-i-list.false (is-end ((goal.at.returns c).In_default))) ∙ ap (λ (n : ℕ). Ok n) (length-take-le _ _ c.loop-line.invariant.within))
