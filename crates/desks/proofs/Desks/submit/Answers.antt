-- `desks::Desks::submit` meets its contract. Assumes nothing.
use Prim.Native.Nat.{ℕ, ◌<◌, ◌≤◌}
use mathlib.Core.Path.{◌≡◌, sym, ap, ap₂, ◌∙◌, subst}
use native.Mathlib.Omega.{arith}
use lib.ListN.{get_or}
use Rattle.std.specs.declared.result.Result.TheVariants.{Ok, Err}
use Rattle.desks.specs.Seen.{seen, Untouched, told_acceptance}
use Rattle.desks.specs.State.{submitted, accept, joined}
use Rattle.model.specs.Outcome.{refused}
use Rattle.model.specs.declared.Cause.TheVariants as causes
use Rattle.desks.specs.declared.Desks.{Desks}
use Rattle.desks.proofs.States.{no-desk, full, accepts}
use Rattle.desks.proofs.Queues.{seen-length, seen-before}
use Rattle.desks.proofs.Desks.submit.Goals as goal

pub returns-then-desk-clause-answer_value : goal.returns-then-desk-clause-answer_value
returns-then-desk-clause-answer_value c =
    ap Err c.refuse.ensures ∙ ap (λ r. told_acceptance r.answer) (sym (no-desk c.args.desk c.args.tag (seen c.args.self.now) c.if-desk.true))

pub returns-then-desk-clause-desks_value : goal.returns-then-desk-clause-desks_value
returns-then-desk-clause-desks_value c = ap (λ r. r.state) (sym (no-desk c.args.desk c.args.tag (seen c.args.self.now) c.if-desk.true))

-- the desk's queue is full
four : (s : Desks) (desk tag : ℕ) → desk < 8 → 4 ≤ get_or s.waiting desk 0 → submitted desk tag (seen s) ≡ record { answer = refused causes.FourWait desk 0; state = seen s }
four s desk tag h k = full desk tag (seen s) h (omega (arith, seen-length s desk, k))

pub returns-then-self-d-ge-WAITING-clause-answer_value : goal.returns-then-self-d-ge-WAITING-clause-answer_value
returns-then-self-d-ge-WAITING-clause-answer_value c =
    ap Err c.refuse-then-self-d-ge-WAITING.ensures ∙ ap (λ r. told_acceptance r.answer) (sym (four c.args.self.now c.args.desk c.args.tag c.if-desk.false c.if-self-d-ge-WAITING.true))

pub returns-then-self-d-ge-WAITING-clause-desks_value : goal.returns-then-self-d-ge-WAITING-clause-desks_value
returns-then-self-d-ge-WAITING-clause-desks_value c = ap (λ r. r.state) (sym (four c.args.self.now c.args.desk c.args.tag c.if-desk.false c.if-self-d-ge-WAITING.true))

-- a job joins it
fewer : (s : Desks) (desk tag : ℕ) → desk < 8 → get_or s.waiting desk 0 < 4 → submitted desk tag (seen s) ≡ accept desk tag (seen s)
fewer s desk tag h k = accepts desk tag (seen s) h (omega (arith, seen-length s desk, k))

pub returns-clause-answer_value : goal.returns-clause-answer_value
unfolding seen
returns-clause-answer_value c = let s = c.args in
    ap₂ (λ (n b : ℕ). Ok (record { number = n; before = b })) c.next_number-number.ensures (c.jobs_before-before.ensures ∙ seen-before s.self.now s.desk)
    ∙ ap (λ r. told_acceptance r.answer) (sym (fewer s.self.now s.desk s.tag c.if-desk.false c.if-self-d-ge-WAITING.false))

pub returns-clause-desks_value : goal.returns-clause-desks_value
unfolding seen
returns-clause-desks_value c = let s = c.args in
    c.put.ensures
    ∙ ap (λ m. joined s.desk (record { number = m; tag = s.tag }) (seen s.self.now)) c.next_number-number.ensures
    ∙ ap (λ r. r.state) (sym (fewer s.self.now s.desk s.tag c.if-desk.false c.if-self-d-ge-WAITING.false))

pub returns-clause-untouched : goal.returns-clause-untouched
returns-clause-untouched c = let s = c.args in
    subst (λ r. Untouched r.answer s.self.now c.put.new.self) (sym (fewer s.self.now s.desk s.tag c.if-desk.false c.if-self-d-ge-WAITING.false)) tt
