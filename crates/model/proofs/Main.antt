-- The claim holds.
use Rattle.model.specs.Claim.{Claim}
use Rattle.model.proofs.Choices.{safe, marked-overloads, found}
use Rattle.model.proofs.Bounded.{bounded}

pub claim : Claim
claim = record { safe = safe; shown = marked-overloads; found = found; bounded = bounded }
