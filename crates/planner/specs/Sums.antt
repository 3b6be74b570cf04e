-- What the search computes from the three sums of a link.
use Rattle.std.specs.Prelude.{ℕ, ◌+◌, ◌-◌, ◌*◌, max}
use Rattle.model.specs.Net.{Net}
use Rattle.lists.specs.declared.PlanSizes.{PlanSizes}
use Rattle.link_sums.specs.declared.table.LinkSums.{LinkSums}

-- with m rows after the first in each window: the worst load of a link in the step from row i of q steps, and the larger of those in the first step
-- and in the last
abbrev pub step_sum : LinkSums → ℕ → ℕ → ℕ → ℕ
step_sum s m q i = (q - (i + m)) * s.old + i * s.new + m * s.peak

abbrev pub end_sum : LinkSums → ℕ → ℕ → ℕ
end_sum s m q = (q - m) * max s.old s.new + m * s.peak

-- the sizes of the even plan of q steps
abbrev pub even_sizes : Net → ℕ → PlanSizes
even_sizes N q = record { parts = q; steps = q; tunnels = N.tunnels }
