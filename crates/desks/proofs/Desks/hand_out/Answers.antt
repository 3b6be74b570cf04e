-- `desks::Desks::hand_out` meets its contract. Assumes nothing.
use mathlib.Core.Path.{◌≡◌, sym, ap, ◌∙◌}
use mathlib.Core.Option.{none}
use Rattle.std.specs.declared.result.Result.TheVariants.{Err}
use Rattle.desks.specs.State.{first_work, hand_of}
use Rattle.desks.specs.Seen.{seen, told_job}
use Rattle.desks.specs.Inner.{turn_work}
use Rattle.desks.proofs.Desks.hand_out.Goals as goal

-- nobody's turn
pub returns-in_default-clause-answer_value : goal.returns-in_default-clause-answer_value
unfolding hand_of
returns-in_default-clause-answer_value c =
    let s = c.args.self.now in
    let e : first_work (seen s) ≡ none = c.whose_turn.ensures.s_value ∙ ap (λ r. turn_work r (seen s)) c.in_default.is in
    ap Err c.refuse.ensures ∙ ap (λ o. told_job (hand_of (seen s) o).answer) (sym e)

pub returns-in_default-clause-desks_value : goal.returns-in_default-clause-desks_value
unfolding hand_of
returns-in_default-clause-desks_value c =
    let s = c.args.self.now in
    let e : first_work (seen s) ≡ none = c.whose_turn.ensures.s_value ∙ ap (λ r. turn_work r (seen s)) c.in_default.is in
    ap (λ o. (hand_of (seen s) o).state) (sym e)
