-- Flows of one rate, as all are in edition 1: which sums are missed is then what the first paper says.
use Rattle.std.specs.Prelude.{suc, ◌*◌, ◌≡◌, not, eqb}
use Rattle.std.proofs.Math.Option.{or_else}
use Rattle.model.specs.Search.{only_if, first}
use Rattle.model.specs.Net.{Net, Plan, row}
use Rattle.model.specs.Rule.{flow_sum, missed_rate, missed_row}

pub record OneRate (N : Net) : Type 0 where
  -- "A flow's `old` amounts add up to its rate, and so do its `new` amounts"
  pub rates : missed_rate N ≡ first N.flows (λ f.
      or_else (only_if (not (eqb (flow_sum N N.old f) (N.rate f))) (record { place = f; second = 0 }))
      (only_if (not (eqb (flow_sum N N.new f) (N.rate f))) (record { place = f; second = 1 })))
  -- "In every row a flow's amounts add up to parts × rate"
  pub rows : (P : Plan) → missed_row N P ≡ first (suc P.steps) (λ a. first N.flows (λ f.
      only_if (not (eqb (flow_sum N (row N P a) f) (P.parts * N.rate f))) (record { place = a; second = f })))
