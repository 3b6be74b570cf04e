-- "Lag 1 is today's rule": what the definitions come to at a lag of 1.
use Rattle.std.specs.Prelude.{ℕ, suc, ◌≤◌, ◌<◌, max, ◌≡◌, cond, ◌&&◌, ltb}
use Rattle.model.specs.Net.{Net, Plan, row}
use Rattle.model.specs.Scan.{Overload, scan}
use Rattle.model.specs.Rule
use Rattle.model.specs.Rule.{crosses, mover_of, on_link, load, exceeds, step_count, first_overload, Choice, movers_of}
use Rattle.model.specs.Even.{step_bound, lag_bound}

-- "A tunnel's worst amount in the step is the larger of its two"; of a flow's sums "the larger sum counts"
abbrev pub larger_of_two : Net → Plan → ℕ → ℕ → ℕ → ℕ
larger_of_two N P i l m = max (on_link N l (row N P i) m) (on_link N l (row N P (suc i)) m)

pub record Today : Type 0 where
  -- the rule is that of the larger of two rows, in all steps
  pub overload : (N : Net) (P : Plan) → 0 < P.steps
      → first_overload 1 N P ≡ scan P.steps N.links (λ i l b. exceeds N b P.parts l (load N b (larger_of_two N P i l)))
  pub steps : (N : Net) (P : Plan) → 0 < P.steps → step_count 1 N P ≡ P.steps
  pub worst : (N : Net) (P : Plan) (i l m : ℕ) → i < P.steps → Rule.worst 1 N P i l m ≡ larger_of_two N P i l m
  -- "each tunnel show its amount in row a-1 or its amount in row a": a choice of 0 shows the earlier row, any other the later
  pub shown : (N : Net) (P : Plan) (i l : ℕ) (c : Choice 1 N P i) (m : ℕ) → i < P.steps → Rule.shown 1 N P i l c m ≡ on_link N l (row N P (cond (ltb 0 (c m)) (suc i) i)) m
  -- "a tunnel is 1 exactly if it crosses the named link and its amount rises in the named step"
  pub mark : (N : Net) (P : Plan) (o : Overload) (t : ℕ) → o.from < P.steps
      → Rule.mark 1 N P o t
      ≡ (crosses N o.link t && ltb (on_link N o.link (row N P o.from) (mover_of N t)) (on_link N o.link (row N P (suc o.from)) (mover_of N t)))
  -- "the marked tunnels show the later row and all others the earlier"
  pub marked : (N : Net) (P : Plan) (o : Overload) (m : ℕ) → o.from < P.steps
      → Rule.shown 1 N P o.from o.link (Rule.marked 1 N P o) m ≡ on_link N o.link (row N P (cond (movers_of N (Rule.mark 1 N P o) m) (suc o.from) o.from)) m
  -- "ceil(1000/scratch) - 1, or the larger of that and ceil(1000/overrun) if overrun is not 0"
  pub bound : (scratch overrun : ℕ) → 0 < scratch → scratch ≤ 1000 → lag_bound 1 scratch overrun ≡ step_bound scratch overrun
