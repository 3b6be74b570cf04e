-- What the parts of the search for an overload come to. No promise of the product cites these.
use Rattle.std.specs.Prelude.{ℕ, Bool, cond, Option, Some, None}
use Rattle.std.proofs.Math.Option as math
use Rattle.model.specs.Net.{Net}
use Rattle.model.specs.Scan as model
use Rattle.model.specs.Scan.{Bound}
use Rattle.model.specs.Rule.{exceeds}
use Rattle.model.specs.declared.Cause.{Cause}
use Rattle.model.specs.declared.Cause.TheVariants.{OverProtected, OverTotal}
use Rattle.overloads.specs.declared.steps.Overload.{Overload}

-- the refusal that two loads of a link meet, that of the first bound before that of the second
abbrev pub over_cause : Bool → Bool → Option Cause
over_cause protected total = cond protected (Some OverProtected) (cond total (Some OverTotal) None)

unfoldable pub over_by : Net → ℕ → ℕ → ℕ → ℕ → Option Cause
over_by N parts l protected all = over_cause (exceeds N Bound.protected parts l protected) (exceeds N Bound.total parts l all)

abbrev pub overload_of : math.Option model.Overload → Option Overload
overload_of math.none = None
overload_of (math.some o) = Some (record { cause = model.cause o.bound; row = o.from; link = o.link })
