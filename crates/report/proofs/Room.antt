-- The arrays of the programs have room for every network and every plan, and what stands in them after an operation is what it gave.
use Prim.Native.Nat.{ℕ, ◌+◌, ◌≤◌}
use mathlib.Core.Path.{◌≡◌, refl, sym, ap, ◌∙◌}
use mathlib.Core.List.{List, ◌++◌}
use native.Mathlib.Omega.{arith}
use lib.ListN.{length, take, drop, length-append}
use lib.Seq.{take-append_seam}
use Rattle.model.specs.Outcome.{Outcome, good, refused}
use Rattle.lists.specs.Lists.{most_network, most_plan}
use Rattle.std.specs.declared.result.Result.TheVariants.{Ok}
use Rattle.lists.specs.Answers.{with_room, lent}
use Rattle.lists.specs.Refusals.{counted}
use Rattle.lists.proofs.Refusals.{counted-good}
use Rattle.forms.specs.declared.form.Form.TheVariants as form
use Rattle.lists.proofs.Positions.{short, short-plan}
use Rattle.lists.proofs.Rooms.{good-room}
use Rattle.forms.proofs.Good.{good-network, good-plan}
use Rattle.forms.proofs.Round.{read-good}
use Rattle.planner.specs.Planned.{planned}
use Rattle.planner.proofs.Main.{safe}
use Rattle.forms.specs.Named.{read_network, read_plan, judge_plan}

-- ---- there is room

pub fits : (room : ℕ) (o : Outcome (List ℕ)) → ((l : List ℕ) → o ≡ good l → length l ≤ room) → with_room room o ≡ o
fits room (good l) h = good-room room l (h l refl)
fits room (refused c place second) h = refl

plan-length : (l : List ℕ) → judge_plan l ≡ good l → length l ≤ most_plan
plan-length l e = short-plan l (good-plan l l e).1

pub network-fits : (text : List ℕ) → with_room most_network (read_network text) ≡ read_network text
network-fits text = fits most_network (read_network text) (λ l e. short l (good-network l l (read-good form.Network text l e)).1.ranges.sized)

pub plan-fits : (text : List ℕ) → with_room most_plan (read_plan text) ≡ read_plan text
plan-fits text = fits most_plan (read_plan text) (λ l e. plan-length l (read-good form.Plan text l e))

pub planned-fits : (network : List ℕ) → with_room most_plan (planned 1 network) ≡ planned 1 network
planned-fits network = fits most_plan (planned 1 network) (λ l e. plan-length l (safe 1 network l e).judged)

-- ---- what a length tells: what was given stands at the front

pub record Given (o : Outcome (List ℕ)) (k : ℕ) (s : List ℕ) : Type 0 where
  pub outcome : o ≡ good (take k s)
  pub within : k ≤ length s

at_front : (o : Outcome (List ℕ)) (l : List ℕ) (k : ℕ) (out s : List ℕ) → o ≡ good l → length l ≡ k → s ≡ lent o out → Given o k s
at_front o l k out s e n h =
    let t : s ≡ l ++ drop (length l) out = h ∙ ap (λ (w : Outcome (List ℕ)). lent w out) e in
    let f : take k s ≡ l = rw (t, sym n) (take-append_seam l (drop (length l) out)) in
    record { outcome = e ∙ ap good (sym f); within = let z : length s ≡ length l + length (drop (length l) out) = rw t (length-append l (drop (length l) out)) in omega (arith, z, n) }

pub given : (room : ℕ) (o : Outcome (List ℕ)) (k : ℕ) (out s : List ℕ) → with_room room o ≡ o → counted (with_room room o) ≡ Ok k → s ≡ lent (with_room room o) out → Given o k s
given room o k out s f e h =
    let g = counted-good o k (ap counted (sym f) ∙ e) in
    at_front o g.0 k out s g.1 g.2 (h ∙ ap (λ (w : Outcome (List ℕ)). lent w out) f)
