-- Even plans, the fewest even steps, and the step bound.
use Rattle.std.specs.Prelude.{ℕ, zero, suc, ◌+◌, ◌-◌, ◌*◌, ◌/◌, max, Bool, cond, not, ◌&&◌, leb, eqb}
use Rattle.std.proofs.Math.Option.{Option}
use Rattle.model.specs.Limits.{most_steps}
use Rattle.model.specs.Search.{only_if, is_none, first}
use Rattle.model.specs.Net.{Net, Plan}
use Rattle.model.specs.Scan.{protected, total}
use Rattle.model.specs.Rule.{on_link, load, accepted}

-- "q × old + a × (new - old)": for a up to q nothing is cut off
unfoldable pub even_row : Net → ℕ → ℕ → ℕ → ℕ
even_row N q a t = q * N.old t + a * N.new t - a * N.old t

-- "The even plan of q steps has parts = q"
unfoldable pub even : Net → ℕ → Plan
even N q = record { parts = q; steps = q; at = even_row N q }

-- the fewest even steps at a lag of w: the least number from 1 to 50 whose even plan is accepted
unfoldable pub fewest : ℕ → Net → Option ℕ
fewest w N = first most_steps (λ i. only_if (accepted w N (even N (suc i))) (suc i))

-- ---- the step bound

unfoldable pub ceil_div : ℕ → ℕ → ℕ
ceil_div a b = (a + (b - 1)) / b

-- "ceil(1000/scratch) - 1, or the larger of that and ceil(1000/overrun) if overrun is not 0"
unfoldable pub step_bound : ℕ → ℕ → ℕ
step_bound scratch zero = ceil_div 1000 scratch - 1
step_bound scratch (suc o) = max (ceil_div 1000 scratch - 1) (ceil_div 1000 (suc o))

-- at a lag of w, "ceil(w × (1000 - scratch)/scratch) steps, or, with overrun, ceil(1000 × w/overrun) if larger"
unfoldable pub lag_bound : ℕ → ℕ → ℕ → ℕ
lag_bound w scratch zero = ceil_div (w * (1000 - scratch)) scratch
lag_bound w scratch (suc o) = max (ceil_div (w * (1000 - scratch)) scratch) (ceil_div (1000 * w) (suc o))

-- "1000 × protected load is at most (1000 - scratch) × cap, and the load of all classes meets the same bound if overrun is 0, else is at most cap"
unfoldable pub leaves_scratch : Net → (ℕ → ℕ) → ℕ → Bool
leaves_scratch N x l =
    leb (1000 * load N protected (on_link N l x)) ((1000 - N.scratch) * N.cap l)
    && cond (eqb N.overrun 0) (leb (1000 * load N total (on_link N l x)) ((1000 - N.scratch) * N.cap l)) (leb (load N total (on_link N l x)) (N.cap l))

-- "A network keeps its scratch when on each link, for old and for new": there is no link that does not leave it
unfoldable pub keeps_scratch : Net → Bool
keeps_scratch N = is_none (first N.links (λ l. only_if (not (leaves_scratch N N.old l && leaves_scratch N N.new l)) l))
