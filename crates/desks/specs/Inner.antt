-- What the inner functions come to. No promise cites these.
use Rattle.std.specs.Prelude.{◌<◌, get_or}
use Rattle.std.specs.Prelude.{Some, None}
use Rattle.std.specs.declared.option.Option as code
use Rattle.std.proofs.Math.Option.{Option, none}
use Rattle.desks.specs.State.{State, Work, work}
use Rattle.desks.specs.declared.Desks.{Desks}
use Rattle.desks.specs.declared.desk.Desk.{Desk}

-- the work of the desk whose turn it is
abbrev pub turn_work : code.Option Desk → State → Option Work
turn_work (Some d) s = work d.at (s.queue d.at)
turn_work None s = none

-- a desk whose turn it is has work
abbrev pub HasWork : Desks → code.Option Desk → Type 0
HasWork s (Some d) = 0 < get_or s.waiting d.at 0
HasWork s None = Unit {0}
