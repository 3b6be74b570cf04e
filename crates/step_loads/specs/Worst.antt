-- The worst loads of one step. The step that the paper numbers i + 1 leads from row i and is named here by i, as in the model.
use Rattle.std.specs.Prelude.{ℕ}
use Rattle.model.specs.Net.{Net, Plan}
use Rattle.model.specs.Rule.{load, worst}
use Rattle.model.specs.Scan.{Bound}

-- "worst protected, worst of all": what the worst amounts of the step put on a link. "Lag 1 is today's rule, which the page of (ii) keeps"
unfoldable pub worst_load : Net → Plan → ℕ → ℕ → Bound → ℕ
worst_load N P i l b = load N b (worst 1 N P i l)
