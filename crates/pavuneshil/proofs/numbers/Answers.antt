-- `pavuneshil::numbers` meets its contract. Each arm gives the numbers of its case. Assumes nothing.
use mathlib.Core.Path.{sym, ap}
use Rattle.pavuneshil.specs.Four.{four}
use Rattle.pavuneshil.proofs.numbers.Goals as goal

pub returns-in-Done : goal.returns-in-Done
returns-in-Done c = sym (ap four c.in-Done.is)

pub returns-in-Plan : goal.returns-in-Plan
returns-in-Plan c = sym (ap four c.in-Plan.is)

pub returns-in-Refused : goal.returns-in-Refused
returns-in-Refused c = sym (ap four c.in-Refused.is)
