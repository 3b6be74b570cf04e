-- Laws of a run: from stage to stage, in lists.
use Prim.Native.Nat.{ℕ, ◌+◌, ◌-◌, ◌*◌, ◌<◌}
use mathlib.Core.Path.{◌≡◌, refl, sym, ap, subst, ◌∙◌}
use mathlib.Core.Logic.{◌≢◌}
use mathlib.Core.List.{List}
use native.Mathlib.Numerals.{add-one}
use native.Mathlib.Omega.{arith}
use Rattle.model.specs.Even.{ceil_div}
use Rattle.lists.specs.Lists.{at}
use Rattle.rules.specs.Rules.{Rules, add, remove, count, last_stage}
use Rattle.rules.specs.Stage.{Move, adds, removes, kind_of, Stages, pass, stage, stages}
use Rattle.rules.specs.Lists.{rules_of, GoodRules}
use Rattle.switches.specs.Inner.{Counted, Spares}
use Rattle.staging.specs.Inner.{move_of, counts, times_of, Ready, Reached, StagedTo}
use Rattle.rules.proofs.Passes.{other-moved, other-waits}

-- the last stage of rule tables, by their slack
pub last-is : (R : Rules) (slack last : ℕ) → slack ≡ R.slack → last ≡ ceil_div 1000 slack - 1 → last ≡ last_stage R
unfolding last_stage
last-is R slack last e h = h ∙ ap (λ (n : ℕ). ceil_div 1000 n - 1) e

-- what a pass leaves of the other move's counts
counted-other : (R : Rules) (o m : Move) (i : ℕ) (f g : Stages) (c : List ℕ) → kind_of o ≢ kind_of m → g ≡ pass R m i f R.tunnels
    → Counted R R.tunnels (counts R o f) c → Counted R R.tunnels (counts R o g) c
unfolding counts count
counted-other R o m i f g c d e C = record { size = C.size; each = λ s h. C.each s h ∙ sym (same o d s) }
  where
    same : (o : Move) → kind_of o ≢ kind_of m → (s : ℕ) → count R (counts R o g) s ≡ count R (counts R o f) s
    same adds d s = ap (λ (k : Stages). count R (counts R adds k) s) e ∙ other-moved R m adds i f R.tunnels s d
    same removes d s = ap (λ (k : Stages). count R (counts R removes k) s) e ∙ other-waits R m removes i f R.tunnels s d

module _ (l x : List ℕ) (good : GoodRules l) (X : Spares (rules_of l) x) (last : ℕ) (e : last ≡ last_stage (rules_of l)) (i : ℕ) (h : i < last)
    (a r o : List ℕ) (B : StagedTo l i a r o) where
  abbrev R : Rules
  R = rules_of l

  pub ready-adds : Ready l x add (i + 1) (i + 1) (1000 * last) a o
  unfolding move_of times_of
  ready-adds = record {
    good = good;
    spares = X;
    pass = record { moves = refl; inside = (omega arith, omega (arith, h, e)); bound = refl; scale = ap (λ (k : ℕ). 1000 * k) e };
    counted = B.added;
    size = B.size;
  }

  module _ (a' o' : List ℕ) (A : Reached l (move_of add) (pass R (move_of add) (i + 1) (at o) R.tunnels) a' o') where
    pub ready-removes : Ready l x remove (i + 1) (last - (i + 1)) (1000 * last) r o'
    unfolding move_of times_of
    ready-removes = record {
      good = good;
      spares = X;
      pass = record { moves = refl; inside = (omega arith, omega (arith, h, e)); bound = ap (λ (k : ℕ). k - (i + 1)) e; scale = ap (λ (k : ℕ). 1000 * k) e };
      counted = counted-other R removes adds (i + 1) (at o) (at o') r (λ z. omega (arith, z)) A.stages B.remaining;
      size = A.size;
    }

    pub staged-on : (r' o'' : List ℕ) → Reached l (move_of remove) (pass R (move_of remove) (i + 1) (at o') R.tunnels) r' o'' → StagedTo l (i + 1) a' r' o''
    unfolding move_of stages stage
    staged-on r' o'' D = record {
      added = counted-other R adds removes (i + 1) (at o') (at o'') a' (λ z. omega (arith, z)) D.stages A.counted;
      remaining = D.counted;
      size = D.size;
      stages =
          D.stages
          ∙ ap (λ (k : Stages). pass R removes (i + 1) k R.tunnels) (A.stages ∙ ap (λ (k : Stages). pass R adds (i + 1) k R.tunnels) B.stages)
          ∙ ap (λ (j : ℕ). pass R removes j (pass R adds j (stages R i) R.tunnels) R.tunnels) (add-one i)
          ∙ ap (stages R) (sym (add-one i));
    }

pub staged-at : (l : List ℕ) (i j : ℕ) (a r o : List ℕ) → StagedTo l i a r o → i ≡ j → StagedTo l j a r o
staged-at l i j a r o B e = subst (λ (k : ℕ). StagedTo l k a r o) e B
