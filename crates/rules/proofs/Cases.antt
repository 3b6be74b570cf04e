-- Some cases at the definitions: each is computed.
use Prim.Native.Nat.{ℕ}
use mathlib.Core.Path.{◌≡◌, refl}
use mathlib.Core.List.{List, [], ◌∷◌}
use mathlib.Core.Option.{or_else}
use lib.ListN.{length, get_or}
use Rattle.model.specs.Even.{ceil_div}
use Rattle.model.specs.Listed.{listed}
use Rattle.model.specs.Outcome.{good, refused}
use Rattle.model.specs.declared.Cause.TheVariants.{Unfit as unfit}
use Rattle.model.specs.Search.{only_if, first}
use Rattle.model.specs.Sum.{sum_over}
use Rattle.rules.specs.Rules.{Rules, is_kind, rule, count, last_stage, usable, spare}
use Rattle.rules.specs.Stage.{moved, waits, every, within, goes, given, turn, pass, stage, stages, too_many, unfit_at, staged}

-- of the switches the rooms, and of the tunnels two lists
unfoldable rules : ℕ → List ℕ → List ℕ → List ℕ → Rules
rules slack rooms vias kinds = record {
  slack = slack;
  switches = length rooms;
  tunnels = length vias;
  room = λ s. get_or rooms s 0;
  via = λ t. get_or vias t 0;
  kind = λ t. get_or kinds t 0;
}

record Cases : Type 0 where
  -- slack 250 makes three stages: of four rules to add and four to remove, with one kept, room for 7
  three-stages : staged (rules 250 (7 ∷ []) (1 ∷ 1 ∷ 1 ∷ 1 ∷ 1 ∷ 1 ∷ 1 ∷ 1 ∷ 1 ∷ []) (3 ∷ 2 ∷ 1 ∷ 3 ∷ 2 ∷ 3 ∷ 2 ∷ 3 ∷ 2 ∷ [])) ≡ good (1 ∷ 1 ∷ 0 ∷ 1 ∷ 2 ∷ 2 ∷ 3 ∷ 3 ∷ 3 ∷ [])
  -- a tunnel across both switches waits for the fuller one, and a later tunnel goes before it
  two-switches : staged (rules 333 (4 ∷ 6 ∷ []) (1 ∷ 3 ∷ 2 ∷ 2 ∷ 3 ∷ []) (2 ∷ 2 ∷ 2 ∷ 3 ∷ 3 ∷ [])) ≡ good (2 ∷ 3 ∷ 1 ∷ 2 ∷ 2 ∷ [])
  -- slack 500 makes one stage: all at once
  one-stage : staged (rules 500 (4 ∷ []) (1 ∷ 1 ∷ 1 ∷ 1 ∷ []) (2 ∷ 3 ∷ 2 ∷ 3 ∷ [])) ≡ good (1 ∷ 1 ∷ 1 ∷ 1 ∷ [])
  -- no tunnels
  nothing : staged (rules 20 (0 ∷ []) [] []) ≡ good []
  -- the old set and the new one do not fit the lowest switch: the old one is named
  old-first : staged (rules 500 (1 ∷ 0 ∷ []) (3 ∷ 3 ∷ []) (3 ∷ 2 ∷ [])) ≡ refused unfit 0 0
  -- the new set at switch 0 comes before the old one at switch 1
  lowest-first : staged (rules 500 (2 ∷ 1 ∷ []) (1 ∷ 1 ∷ 2 ∷ []) (2 ∷ 2 ∷ 3 ∷ [])) ≡ refused unfit 0 1

cases : Cases
unfolding rules staged stages stage pass turn given goes within every waits moved unfit_at too_many spare usable last_stage count rule is_kind sum_over first or_else only_if listed ceil_div
cases = record { three-stages = refl; two-switches = refl; one-stage = refl; nothing = refl; old-first = refl; lowest-first = refl }
