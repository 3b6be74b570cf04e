-- What the loops over the movers add up. No promise cites this.
use Rattle.std.specs.Prelude.{ℕ, ◌*◌, ◌≤◌, ◌≡◌}
use Rattle.model.specs.Net.{Net, Plan}
use Rattle.model.specs.Rule.{counts, worst}
use Rattle.model.specs.Scan.{Bound}
use Rattle.model.specs.Sum.{sum_over}

-- the worst loads of a link, as far as the first n movers go, none of which puts more than so much on it
pub record Summed (N : Net) (P : Plan) (i l most n x y : ℕ) : Type 0 where
  pub protected : x ≡ sum_over n (counts N Bound.protected) (worst 1 N P i l)
  pub total : y ≡ sum_over n (counts N Bound.total) (worst 1 N P i l)
  pub few : (x ≤ n * most) × (y ≤ n * most)
