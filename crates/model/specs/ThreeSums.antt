-- The even plan's loads by three sums for each link, and the law that they decide when it is accepted and where it overloads first.
use Rattle.std.specs.Prelude.{ℕ, suc, ◌+◌, ◌-◌, ◌*◌, ◌≤◌, ◌<◌, min, max, ◌≡◌, ◌↔◌, true}
use Rattle.std.proofs.Math.Option.{none}
use Rattle.model.specs.Net.{Net}
use Rattle.model.specs.Scan.{Bound, protected, total, scan}
use Rattle.model.specs.Rule
use Rattle.model.specs.Rule.{on_link, load, exceeds, missed_rate, first_overload}
use Rattle.model.specs.Even.{even}

-- over the movers that a bound counts, on link l: the sums of old, of new, and of the larger of the two
unfoldable pub old_load : Net → Bound → ℕ → ℕ
old_load N b l = load N b (on_link N l N.old)

unfoldable pub new_load : Net → Bound → ℕ → ℕ
new_load N b l = load N b (on_link N l N.new)

unfoldable pub peak_load : Net → Bound → ℕ → ℕ
peak_load N b l = load N b (λ t. max (on_link N l N.old t) (on_link N l N.new t))

-- the worst load in the step from row i of q steps, where a window has m = min w q more rows, and the larger of those in the first step and in the last
unfoldable pub step_load : ℕ → Net → Bound → ℕ → ℕ → ℕ → ℕ
step_load w N b q i l = (q - (i + min w q)) * old_load N b l + i * new_load N b l + min w q * peak_load N b l

unfoldable pub end_load : ℕ → Net → Bound → ℕ → ℕ → ℕ
end_load w N b q l = (q - min w q) * max (old_load N b l) (new_load N b l) + min w q * peak_load N b l

pub record ThreeSums : Type 0 where
  pub accepted : (w : ℕ) (N : Net) → missed_rate N ≡ none → (q : ℕ)
      → (Rule.accepted w N (even N q) ≡ true)
      ↔ ((l : ℕ) → l < N.links → (end_load w N protected q l ≤ q * N.cap l) × (1000 * end_load w N total q l ≤ (1000 + N.overrun) * (q * N.cap l)))
  pub overload : (w : ℕ) (N : Net) (q : ℕ) → first_overload w N (even N q) ≡ scan (suc (q - w)) N.links (λ i l b. exceeds N b q l (step_load w N b q i l))
