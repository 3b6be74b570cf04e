-- `desks::Desks::jobs_before` meets its contract: the desks below `at` are counted. Assumes nothing.
use Prim.Native.Nat.{◌+◌, ◌*◌, ◌≤◌, min}
use mathlib.Core.Path.{◌≡◌}
use lib.ListN.{get_or}
use Rattle.desks.proofs.Rounds.{below}
use Rattle.desks.proofs.Desks.jobs_before.Given as goal

abbrev pub invariant-loop-at : goal.invariant-loop-at
invariant-loop-at l = record {
  total : l.sum ≡ below (λ d. min (get_or l.self.waiting d 0) 4) l.self.last l.desk.at (min (get_or l.self.waiting l.desk.at 0) 4) l.at;
  small : l.sum ≤ 4 + 4 * l.at;
}
