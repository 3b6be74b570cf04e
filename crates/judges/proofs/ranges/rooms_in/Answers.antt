-- `judges::ranges::rooms_in` meets its contract.
use mathlib.Core.Path.{◌≡◌, ap}
use Rattle.lists.specs.Lists.{at}
use Rattle.lists.specs.declared.RuleTables.{RuleTables}
use Rattle.judges.proofs.InRange.{decides-yes, decides-no}
use Rattle.judges.proofs.RulesInRange.{rooms-more}
use native.Mathlib.Omega.{arith}
use Rattle.judges.proofs.ranges.rooms_in.Goals as goal

pub room_at-at-requires : goal.room_at-at-requires
room_at-at-requires c = omega (arith, c.loop-s-test.true, c.requires.0.switches, ap (λ (n : RuleTables). n.switches) c.requires.1)

pub returns-then-list-at-gt-ROOM : goal.returns-then-list-at-gt-ROOM
returns-then-list-at-gt-ROOM c = decides-no (λ a. absurd (omega (arith, ap (at c.args.list.now) c.room_at-at.ensures, a.room _ c.loop-s-test.true, c.if-list-at-gt-ROOM.true)))

pub loop-s-preserved : goal.loop-s-preserved
loop-s-preserved c = rooms-more _ _ c.loop-s.invariant (omega (arith, ap (at c.args.list.now) c.room_at-at.ensures, c.if-list-at-gt-ROOM.false))

pub returns : goal.returns
returns c = let e : c.loop-s.s ≡ c.args.sizes.switches = omega (arith, c.loop-s.auto.s-end) in decides-yes (rw (← e) c.loop-s.invariant)
