-- `pavuneshil::desks_for_c::pavuneshil_hand_out` meets its contract: what `desks` promises of a hand-out, in the parts that are lent. Assumes nothing.
use mathlib.Core.Path.{ap, ◌∙◌}
use Rattle.desks.specs.State.{handed_out}
use Rattle.desks.specs.Seen.{told_job}
use Rattle.desks.specs.Four.{four_of_job}
use Rattle.desks.proofs.FourNumbers.{hand-out-same}
use Rattle.pavuneshil.proofs.Parts.{in_parts}
use Rattle.pavuneshil.proofs.desks_for_c.pavuneshil_hand_out.Goals as goal

pub returns : goal.returns
returns c =
    let a = c.args in
    let m = c.hand_out-job in
    let p = in_parts handed_out (λ o. four_of_job (told_job o)) _ _ _ _ _ c.lent-desks.ensures c.leave.ensures (c.of_hand_out.ensures ∙ hand-out-same _ _ c.map_err.ensures.cases ∙ ap four_of_job m.ensures.answer_value) m.ensures.desks_value m.ensures.untouched in
    record { answer_after = p.0; last_after = p.1.0; untouched = p.1.1 }
