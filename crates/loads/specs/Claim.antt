-- What is claimed of the gathering.
use Rattle.std.specs.Prelude.{ℕ, ◌+◌, ◌≡◌, true, false}
use Rattle.model.specs.Largest.{largest}
use Rattle.model.specs.Net.{Net, Plan, row}
use Rattle.model.specs.Scan.{Bound}
use Rattle.model.specs.Rule.{by_flow, counts, load, reach, worst}
use Rattle.loads.specs.Gathered.{gathered, gathered_by_flow}

-- "The worst amount is the largest in the window"
unfoldable pub worst_amount : ℕ → Net → Plan → ℕ → ℕ → ℕ
worst_amount w N P i t = largest (reach w P i) (λ k. row N P (i + k) t)

-- "At every link the gathered sums equal the rule's", for both bounds, at a lag of w
pub record Gathering : Type 0 where
  -- where each tunnel moves for itself
  pub tunnels : (w : ℕ) (N : Net) (P : Plan) (i l : ℕ) (b : Bound) → by_flow N ≡ false
      → gathered N.via (counts N b) (worst_amount w N P i) N.tunnels l ≡ load N b (worst w N P i l)
  -- with `unit=1`
  pub flows : (w : ℕ) (N : Net) (P : Plan) (i l : ℕ) (b : Bound) → by_flow N ≡ true
      → gathered_by_flow N.via N.flow (counts N b) (reach w P i) (λ k. row N P (i + k)) N.tunnels N.flows l ≡ load N b (worst w N P i l)
