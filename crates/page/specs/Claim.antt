-- What holds of every page.
use Rattle.std.specs.Prelude.{ℕ, suc, ◌+◌, ◌*◌, ◌≤◌, ◌<◌, ◌≡◌, List, map, length, replicate}
use Rattle.std.proofs.Math.Option.{none}
use Rattle.model.specs.Net.{Net, Plan}
use Rattle.model.specs.Outcome.{good, and_then}
use Rattle.model.specs.Rule.{crosses, exceeds, first_overload}
use Rattle.model.specs.Scan.{protected, total, scan}
use Rattle.model.specs.Sum.{sum_over}
use Rattle.lists.specs.Lists.{network_of, plan_of}
use Rattle.checker.specs.Check.{verdict}
use Rattle.step_loads.specs.Worst.{worst_load}
use Rattle.fields.specs.Columns.{line, line_size}
use Rattle.page.specs.Page.{hops, page_fields, page, step_page, unless_over, page_of}

-- of the page of the step from row i
pub record Laid (N : Net) (P : Plan) (i : ℕ) : Type 0 where
  -- "Each line has 42 characters and a line feed", so every field fits its column
  pub lines : map (λ fields. length (line fields)) (page_fields N P i) ≡ replicate (2 + N.links + N.tunnels) line_size
  pub size : length (page N P i) ≡ line_size * (2 + N.links + N.tunnels)
  -- on the line of a link, worst protected is at most cap × parts, and 1000 times worst of all at most (1000 + overrun) times that
  pub protected : (l : ℕ) → l < N.links → worst_load N P i l protected ≤ P.parts * N.cap l
  pub all : (l : ℕ) → l < N.links → 1000 * worst_load N P i l total ≤ (1000 + N.overrun) * (P.parts * N.cap l)
  -- "hops (the number of links it crosses)"
  pub hops : (t : ℕ) → t < N.tunnels → hops N t ≡ sum_over N.links (λ l. crosses N l t) (λ l. 1)

pub record Claim : Type 0 where
  -- there is a page exactly of each step of a plan that the checker accepts, given room for the marks
  pub given : (n p : List ℕ) (room i : ℕ) → verdict 1 n p room ≡ good none → i < (plan_of p).steps → page_of n p (suc i) ≡ good (page (network_of n) (plan_of p) i)
  pub laid : (n p : List ℕ) (s : ℕ) (t : List ℕ) → page_of n p s ≡ good t
      → (i : ℕ) × (s ≡ suc i) × (i < (plan_of p).steps) × (verdict 1 n p (network_of n).tunnels ≡ good none) × (t ≡ page (network_of n) (plan_of p) i) × Laid (network_of n) (plan_of p) i
  -- "after the checker's refusals": those that the checker gives at a lag of 1 to anybody who lends it room for the marks
  pub checked : (n p : List ℕ) (s room : ℕ) → (network_of n).tunnels ≤ room → page_of n p s ≡ and_then (verdict 1 n p room) (λ o. unless_over o (step_page (network_of n) (plan_of p) s))
  -- the worsts on the page are what the rule compares
  pub compared : (N : Net) (P : Plan) → 0 < P.steps → first_overload 1 N P ≡ scan P.steps N.links (λ i l b. exceeds N b P.parts l (worst_load N P i l b))
