-- A network and a plan, as numbers and functions of numbers: what the two texts say, apart from their form.
use Rattle.std.specs.Prelude.{ℕ, ◌*◌, cond, eqb}

pub record Net : Type 0 where
  pub scratch : ℕ
  pub overrun : ℕ
  -- 1 where the switches "rewrite all weights of a flow in one operation", else 0
  pub unit : ℕ
  pub links : ℕ
  pub flows : ℕ
  pub tunnels : ℕ
  -- of a link, what is left of its `cap`: "Everything that read cap reads cap - held"
  pub cap : ℕ → ℕ
  -- of a flow: its class, and what its old and its new amounts add up to
  pub class : ℕ → ℕ
  pub rate : ℕ → ℕ
  pub next : ℕ → ℕ
  -- of a tunnel
  pub flow : ℕ → ℕ
  pub via : ℕ → ℕ
  pub old : ℕ → ℕ
  pub new : ℕ → ℕ

-- the same network with another unit
unfoldable pub with_unit : ℕ → Net → Net
with_unit unit N = record {
  scratch = N.scratch;
  overrun = N.overrun;
  unit = unit;
  links = N.links;
  flows = N.flows;
  tunnels = N.tunnels;
  cap = N.cap;
  class = N.class;
  rate = N.rate;
  next = N.next;
  flow = N.flow;
  via = N.via;
  old = N.old;
  new = N.new;
}

-- `at a t` is the amount listed for tunnel t in row a, in parts, for the rows 1 to steps - 1
pub record Plan : Type 0 where
  pub parts : ℕ
  pub steps : ℕ
  pub at : ℕ → ℕ → ℕ

-- "Row 0 is parts × old; the last row, numbered `steps`, is parts × new; neither is listed."
unfoldable pub row : Net → Plan → ℕ → ℕ → ℕ
row N P a t = cond (eqb a 0) (P.parts * N.old t) (cond (eqb a P.steps) (P.parts * N.new t) (P.at a t))
