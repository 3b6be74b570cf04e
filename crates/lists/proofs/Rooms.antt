-- Laws of room: what becomes of an outcome with the room that is lent.
use mathlib.Core.Path.{◌≡◌}
use mathlib.Core.Bool.{Bool, true, false, cond}
use mathlib.Core.List.{List, ◌++◌}
use Prim.Native.Nat.{ℕ, ◌≤◌, ◌<◌}
use native.Mathlib.Omega.{arith}
use lib.Dec.{leb}
use lib.ListN.{length, drop}
use borrow.Author.Tests.{le-leb, lt-leb}
use Rattle.model.specs.Outcome.{Outcome, good, refused}
use Rattle.model.specs.declared.Cause.TheVariants.{NoRoom as no_room}
use Rattle.lists.specs.Answers.{done, with_room, lent}
use Rattle.lists.specs.declared.Answer.TheVariants.{Done, Refused}

-- ---- what is good, where there is no room for it and where there is

module _ (l out : List ℕ) where
  pub give-none : length out < length l → (done (with_room (length out) (good l)) ≡ Refused 10 (length l) 0) × (lent (with_room (length out) (good l)) out ≡ out)
  give-none h = (rw (lt-leb (length l) (length out) h), rw (lt-leb (length l) (length out) h))

  pub give_all : length l ≤ length out → (done (with_room (length out) (good l)) ≡ Done (length l)) × (lent (with_room (length out) (good l)) out ≡ l ++ drop (length l) out)
  give_all h = (rw (le-leb (length l) (length out) h), rw (le-leb (length l) (length out) h))

-- ---- an outcome with room

pub room-good : (room : ℕ) (o : Outcome (List ℕ)) (l : List ℕ) → with_room room o ≡ good l → o ≡ good l
room-good room (good g) l e = go (leb (length g) room) e
  where
    go : (b : Bool) → cond b (good g) (refused no_room (length g) 0) ≡ good l → good g ≡ good l
    go true e = e
    go false e = let z : ◌≡◌ {A = ℕ} 0 1 = cc in absurd (omega arith)
room-good room (refused c a b) l e = e

pub good-room : (room : ℕ) (l : List ℕ) → length l ≤ room → with_room room (good l) ≡ good l
good-room room l h = rw (le-leb (length l) room h)
