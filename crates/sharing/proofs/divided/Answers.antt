-- `sharing::divided` meets its contract: each return is a case of the definition. Assumes nothing.
use mathlib.Core.Path.{◌≡◌, sym, ap, ◌∙◌}
use mathlib.Core.Option.{some}
use native.Mathlib.Omega.{arith}
use borrow.Author.Rules.{rules}
use Rattle.std.specs.declared.result.Result.TheVariants.{Err}
use Rattle.sharing.specs.Share.{outside}
use Rattle.sharing.proofs.Outcomes.{outside-none, outside-many, outside-rate, share-refused, share-bad, share-good, share-none, share-all}
use Rattle.sharing.proofs.divided.Goals as goal
use Rattle.sharing.proofs.divided.Goals.{After-unshareable, then-count-eq0-via-then-count-eq0, then-count-eq0-via-else-count-eq0+then-count-gt-SERVICES}

count : (c : After-unshareable) → outside c.args.rate c.args.demands.now ≡ some (record { place = 0; second = 0 })
count c =
    elim c.then-count-eq0.branch [
      | then-count-eq0-via-then-count-eq0 w ↦ outside-none c.args.rate c.args.demands.now w.if-count-eq0.true
      | then-count-eq0-via-else-count-eq0+then-count-gt-SERVICES w ↦ outside-many c.args.rate c.args.demands.now w.if-count-gt-SERVICES.true
    ]

pub returns-then-count-eq0-clause-value : goal.returns-then-count-eq0-clause-value
returns-then-count-eq0-clause-value c = ap Err c.unshareable.ensures ∙ (share-refused c.args.rate c.args.demands.now c.args.out.now _ (count c)).0

pub returns-then-count-eq0-clause-out_after : goal.returns-then-count-eq0-clause-out_after
returns-then-count-eq0-clause-out_after c = (share-refused c.args.rate c.args.demands.now c.args.out.now _ (count c)).1

pub returns-then-rate-gt-AMOUNT-clause-value : goal.returns-then-rate-gt-AMOUNT-clause-value
returns-then-rate-gt-AMOUNT-clause-value c =
    let a = c.args in
    ap Err c.unshareable-then-rate-gt-AMOUNT.ensures ∙ (share-refused a.rate a.demands.now a.out.now _ (outside-rate a.rate a.demands.now (omega (arith, c.if-count-eq0.false)) c.if-count-gt-SERVICES.false c.if-rate-gt-AMOUNT.true)).0

pub returns-then-rate-gt-AMOUNT-clause-out_after : goal.returns-then-rate-gt-AMOUNT-clause-out_after
returns-then-rate-gt-AMOUNT-clause-out_after c =
    let a = c.args in
    (share-refused a.rate a.demands.now a.out.now _ (outside-rate a.rate a.demands.now (omega (arith, c.if-count-eq0.false)) c.if-count-gt-SERVICES.false c.if-rate-gt-AMOUNT.true)).1

pub returns-in_err-demands-clause-value : goal.returns-in_err-demands-clause-value
returns-in_err-demands-clause-value c =
    let a = c.args in
    let p = (share-bad a.rate a.demands.now a.out.now _ (omega (arith, c.if-count-eq0.false)) c.if-count-gt-SERVICES.false c.if-rate-gt-AMOUNT.false (sym c.in_err-demands.ensures)).0 in
    search (rules, p)

pub returns-in_err-demands-clause-out_after : goal.returns-in_err-demands-clause-out_after
returns-in_err-demands-clause-out_after c =
    let a = c.args in
    (share-bad a.rate a.demands.now a.out.now _ (omega (arith, c.if-count-eq0.false)) c.if-count-gt-SERVICES.false c.if-rate-gt-AMOUNT.false (sym c.in_err-demands.ensures)).1

pub returns-then-out-count-clause-value : goal.returns-then-out-count-clause-value
returns-then-out-count-clause-value c =
    let a = c.args in
    let g = share-good a.rate a.demands.now a.out.now _ (omega (arith, c.if-count-eq0.false)) c.if-count-gt-SERVICES.false c.if-rate-gt-AMOUNT.false (sym c.in_ok-demands.ensures) in
    ap Err c.no_room.ensures ∙ (share-none a.rate a.demands.now a.out.now g.0 c.if-out-count.true).0

pub returns-then-out-count-clause-out_after : goal.returns-then-out-count-clause-out_after
returns-then-out-count-clause-out_after c =
    let a = c.args in
    let g = share-good a.rate a.demands.now a.out.now _ (omega (arith, c.if-count-eq0.false)) c.if-count-gt-SERVICES.false c.if-rate-gt-AMOUNT.false (sym c.in_ok-demands.ensures) in
    (share-none a.rate a.demands.now a.out.now g.0 c.if-out-count.true).1

pub give-requires : goal.give-requires
give-requires c =
    let a = c.args in
    let g = share-good a.rate a.demands.now a.out.now _ (omega (arith, c.if-count-eq0.false)) c.if-count-gt-SERVICES.false c.if-rate-gt-AMOUNT.false (sym c.in_ok-demands.ensures) in
    (c.if-rate-gt-AMOUNT.false, rw g.1 c.if-out-count.false)

pub returns-clause-value : goal.returns-clause-value
returns-clause-value c =
    let a = c.args in
    let g = share-good a.rate a.demands.now a.out.now _ (omega (arith, c.if-count-eq0.false)) c.if-count-gt-SERVICES.false c.if-rate-gt-AMOUNT.false (sym c.in_ok-demands.ensures) in
    (share-all a.rate a.demands.now a.out.now g.0 c.if-out-count.false).0

pub returns-clause-out_after : goal.returns-clause-out_after
returns-clause-out_after c =
    let a = c.args in
    let g = share-good a.rate a.demands.now a.out.now _ (omega (arith, c.if-count-eq0.false)) c.if-count-gt-SERVICES.false c.if-rate-gt-AMOUNT.false (sym c.in_ok-demands.ensures) in
    (rw g.1 at c.give.ensures) ∙ (share-all a.rate a.demands.now a.out.now g.0 c.if-out-count.false).1
