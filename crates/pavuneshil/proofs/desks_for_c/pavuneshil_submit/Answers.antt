-- `pavuneshil::desks_for_c::pavuneshil_submit` meets its contract: what `desks` promises of a submission, in the parts that are lent. Assumes nothing.
use mathlib.Core.Path.{ap, ◌∙◌}
use Rattle.desks.specs.State.{submitted}
use Rattle.desks.specs.Seen.{told_acceptance}
use Rattle.desks.specs.Four.{four_of_acceptance}
use Rattle.desks.proofs.FourNumbers.{submission-same}
use Rattle.pavuneshil.proofs.Parts.{in_parts}
use Rattle.pavuneshil.proofs.desks_for_c.pavuneshil_submit.Goals as goal

pub returns : goal.returns
returns c =
    let a = c.args in
    let m = c.submit-submission in
    let p = in_parts (submitted a.desk a.tag) (λ o. four_of_acceptance (told_acceptance o)) _ _ _ _ _ c.lent-desks.ensures c.leave.ensures (c.of_submission.ensures ∙ submission-same _ _ c.map_err.ensures.cases ∙ ap four_of_acceptance m.ensures.answer_value) m.ensures.desks_value m.ensures.untouched in
    record { answer_after = p.0; last_after = p.1.0; untouched = p.1.1 }
