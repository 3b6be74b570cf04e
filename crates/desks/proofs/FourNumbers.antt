-- Of an answer whose refusal has a cause, the four numbers are those of the same answer with the refusal by its numbers.
use mathlib.Core.Path.{◌≡◌, ap, ◌∙◌}
use Rattle.std.specs.Prelude.{Result, Ok, Err, MatchResult, IsErrAnd}
use Rattle.std.proofs.lemmas.Result.{err_from_is_err_and}
use Rattle.lists.specs.declared.refusal.Refusal.{Refusal}
use Rattle.desks.specs.declared.Accepted.{Accepted}
use Rattle.desks.specs.declared.Job.{Job}
use Rattle.desks.specs.declared.numbers.Refused.{Refused}
use Rattle.desks.specs.Four.{four_of_acceptance, four_of_job, numbers_of, four_of_submission, four_of_hand_out}

pub submission-same : (a : Result Accepted Refusal) (b : Result Accepted Refused)
    → MatchResult a (λ x. b ≡ Ok x) (λ e. IsErrAnd b (λ r. r ≡ numbers_of e)) → four_of_submission b ≡ four_of_acceptance a
submission-same (Ok x) b h = ap four_of_submission h
submission-same (Err e) b h = let w = err_from_is_err_and b h in ap four_of_submission w.1 ∙ ap (λ (r : Refused). four_of_submission (Err r)) w.2

pub hand-out-same : (a : Result Job Refusal) (b : Result Job Refused)
    → MatchResult a (λ x. b ≡ Ok x) (λ e. IsErrAnd b (λ r. r ≡ numbers_of e)) → four_of_hand_out b ≡ four_of_job a
hand-out-same (Ok x) b h = ap four_of_hand_out h
hand-out-same (Err e) b h = let w = err_from_is_err_and b h in ap four_of_hand_out w.1 ∙ ap (λ (r : Refused). four_of_hand_out (Err r)) w.2
