-- `judges::sums::add_up` meets its contract.
use mathlib.Core.Path.{sym, ◌∙◌}
use Rattle.judges.proofs.Gathering.{missed-some, missed-at, miss_none, missed-none}
use Rattle.judges.proofs.sums.add_up.Goals as goal

pub with_sizes-requires : goal.with_sizes-requires
with_sizes-requires c = record { good = record { ranges = c.requires.0; sums = miss_none _ (sym c.first_missed.ensures ∙ c.in-None.is) }; sizes = c.requires.1 }

pub returns-in-None : goal.returns-in-None
returns-in-None c = rw c.with_sizes.ensures (sym (missed-none _ (miss_none _ (sym c.first_missed.ensures ∙ c.in-None.is))))

pub returns-in-Some : goal.returns-in-Some
returns-in-Some c = sym (missed-at _ _ (missed-some _ _ (sym c.first_missed.ensures ∙ c.in-Some.is)))
