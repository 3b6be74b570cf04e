-- `staging::stages::give` meets its contract: the stages are those of the definition, and are copied. Assumes nothing.
use Prim.Native.Nat.{ℕ}
use mathlib.Core.Path.{refl, ap₂, ◌∙◌}
use mathlib.Core.List.{List, ◌++◌}
use native.Mathlib.Omega.{arith}
use lib.ListN.{drop}
use Rattle.model.specs.Listed.{listed}
use Rattle.staging.proofs.Answers.{staged-none, front}
use Rattle.staging.proofs.stages.give.Goals as goal

pub run-requires-clause-staged_to : goal.run-requires-clause-staged_to
run-requires-clause-staged_to c = staged-none _ _ _ _ refl refl c.requires.remaining

pub returns : goal.returns
returns c =
    let n = c.tunnels-tunnels.ensures.count in
    ap₂ (λ (n : ℕ) (l : List ℕ). l ++ drop n c.args.out.now) n
    (c.copy_from_slice.ensures.after
    ∙ front _ _ (omega (arith, n, c.tunnels-tunnels.ensures.good.tunnels, c.run.ensures.size))
    ∙ ap₂ listed n c.run.ensures.stages)
