-- The loads in a block of steps. No promise of the product cites these.
use Rattle.std.specs.Prelude.{ℕ, ◌+◌, ◌-◌, ◌*◌, ◌≤◌, ◌<◌, min, ◌≡◌, ◌≢◌, ◌⊎◌, cond, List, length}
use Rattle.model.specs.Limits.{most_flows, most_tunnels}
use Rattle.model.specs.Net.{Net, Plan}
use Rattle.model.specs.Scan.{Bound}
use Rattle.model.specs.Rule.{by_flow, step_count, load, worst}
use Rattle.lists.specs.Lists.{at}
use Rattle.loads.specs.Tables.{block_rows, loads_size, load_at, LoadsWithin}

-- how many times the amounts in a block are widened: as many as rows follow the first of a window, but one less where they are the larger of two rows from the start
unfoldable pub times_widened : ℕ → Net → Plan → ℕ
times_widened w N P = cond (by_flow N) (min w P.steps) (min w P.steps - 1)

-- so many steps of a block have whole windows in it
unfoldable pub block_steps : ℕ → Net → Plan → ℕ
block_steps w N P = block_rows - times_widened w N P

-- the loads in the block that begins with the step from row i are the rule's: of protected tunnels, and of both parts together
pub record Gathers (w : ℕ) (N : Net) (P : Plan) (i : ℕ) (loads : List ℕ) : Type 0 where
  pub within : LoadsWithin N.links (most_flows * most_tunnels) loads
  pub protected : (l k : ℕ) → l < N.links → k < block_steps w N P → i + k < step_count w N P → at loads (load_at l 0 k) ≡ load N Bound.protected (worst w N P (i + k) l)
  pub total : (l k : ℕ) → l < N.links → k < block_steps w N P → i + k < step_count w N P
      → at loads (load_at l 0 k) + at loads (load_at l 1 k) ≡ load N Bound.total (worst w N P (i + k) l)

-- the step from row i is step k of its block, whose loads are there but at its first step
pub record InBlock (w : ℕ) (N : Net) (P : Plan) (i k : ℕ) (loads : List ℕ) : Type 0 where
  pub low : (k ≤ i) × (k < block_steps w N P)
  pub size : length loads ≡ loads_size
  pub gathers : k ≢ 0 → Gathers w N P (i - k) loads

-- r is the step after step k in a block of so many, or the first of the next
abbrev pub NextInBlock : ℕ → ℕ → ℕ → Type 0
NextInBlock k steps r = (r < steps) × ((r ≡ k + 1) ⊎ (r ≡ 0))
