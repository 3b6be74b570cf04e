-- The rule for a step, at a lag of w. The step that leads from row i, which the paper numbers i + 1, is named here by i: with a lag it is the window of rows
-- that begins with row i.
use Rattle.std.specs.Prelude.{ℕ, suc, ◌+◌, ◌-◌, ◌*◌, min, max, Bool, true, cond, not, ◌&&◌, leb, ltb, eqb}
use Rattle.std.proofs.Math.Option.{Option, or_else}
use Rattle.model.specs.Sum.{sum_over}
use Rattle.model.specs.Largest.{largest, peak_at}
use Rattle.model.specs.Sets.{in_set}
use Rattle.model.specs.Search.{only_if, is_none, first}
use Rattle.model.specs.Outcome.{Place}
use Rattle.model.specs.Net.{Net, Plan, row}
use Rattle.model.specs.Scan.{Bound, protected, total, Overload, scan}

-- tunnel t crosses link l
unfoldable pub crosses : Net → ℕ → ℕ → Bool
crosses N l t = in_set (N.via t) l

-- what tunnel t puts on link l, where the tunnels have the amounts x
unfoldable pub across : Net → ℕ → (ℕ → ℕ) → ℕ → ℕ
across N l x t = cond (crosses N l t) (x t) 0

-- the amounts of flow f, added up
unfoldable pub flow_sum : Net → (ℕ → ℕ) → ℕ → ℕ
flow_sum N x f = sum_over N.tunnels (λ t. eqb (N.flow t) f) x

-- ---- what moves in one operation: a tunnel, or with `unit=1` a whole flow

unfoldable pub by_flow : Net → Bool
by_flow N = eqb N.unit 1

-- how many movers there are, the mover of a tunnel, and the flow of a mover
unfoldable pub movers : Net → ℕ
movers N = cond (by_flow N) N.flows N.tunnels

unfoldable pub mover_of : Net → ℕ → ℕ
mover_of N t = cond (by_flow N) (N.flow t) t

unfoldable pub flow_of : Net → ℕ → ℕ
flow_of N m = cond (by_flow N) m (N.flow m)

-- what mover m puts on link l: "With `unit=1` a flow's amounts on a link are added"
unfoldable pub on_link : Net → ℕ → (ℕ → ℕ) → ℕ → ℕ
on_link N l x m = cond (by_flow N) (flow_sum N (across N l x) m) (across N l x m)

-- the movers that a bound counts: "classes 0 and 1 (protected)", or "all classes"
unfoldable pub counts : Net → Bound → ℕ → Bool
counts N protected m = leb (N.class (flow_of N m)) 1
counts N total m = true

-- the load of a link on which each mover puts what y says
unfoldable pub load : Net → Bound → (ℕ → ℕ) → ℕ
load N b y = sum_over (movers N) (counts N b) y

-- protected amounts "add up to at most parts × cap"; "1000 times the worst amounts of all classes is at most (1000 + overrun) × parts × cap"
unfoldable pub exceeds : Net → Bound → ℕ → ℕ → ℕ → Bool
exceeds N protected parts l x = ltb (parts * N.cap l) x
exceeds N total parts l x = ltb ((1000 + N.overrun) * (parts * N.cap l)) (1000 * x)

-- ---- the sums of the flows

-- "Old amounts add up to `rate`, new ones to `next`": the first that do not ("lowest flow, old before new")
unfoldable pub missed_by : Net → ℕ → Option Place
missed_by N f =
    or_else (only_if (not (eqb (flow_sum N N.old f) (N.rate f))) (record { place = f; second = 0 }))
    (only_if (not (eqb (flow_sum N N.new f) (N.next f))) (record { place = f; second = 1 }))

unfoldable pub missed_rate : Net → Option Place
missed_rate N = first N.flows (missed_by N)

-- "a flow's sum lies between parts × the lesser and parts × the greater" of its rate and its next
unfoldable pub between : Net → ℕ → ℕ → ℕ → Bool
between N parts f s = leb (parts * min (N.rate f) (N.next f)) s && leb s (parts * max (N.rate f) (N.next f))

-- "In each listed row": the first that misses it ("lowest row, then flow"). Rows 0 and `steps` have the sums of old and of new
unfoldable pub missed_in : Net → Plan → ℕ → ℕ → Option Place
missed_in N P a f = only_if (not (between N P.parts f (flow_sum N (row N P a) f))) (record { place = a; second = f })

unfoldable pub missed_row : Net → Plan → Option Place
missed_row N P = first (suc P.steps) (λ a. first N.flows (missed_in N P a))

-- ---- what the movers show in a step

-- the steps that are looked at: "for a from 0 up to the greater of steps - w and 0"
unfoldable pub step_count : ℕ → Net → Plan → ℕ
step_count w N P = suc (P.steps - w)

-- how many rows follow row i in its window: "from row a to the lesser of a + w and `steps`"
unfoldable pub reach : ℕ → Plan → ℕ → ℕ
reach w P i = min (i + w) P.steps - i

-- "The worst amount is the largest in the window"; "Under `unit=1` flow sums take the place of amounts"
unfoldable pub worst : ℕ → Net → Plan → ℕ → ℕ → ℕ → ℕ
worst w N P i l m = largest (reach w P i) (λ k. on_link N l (row N P (i + k)) m)

-- the row of the window that is n rows after row i; a number beyond the window stands for its last row
unfoldable pub row_in : ℕ → Plan → ℕ → ℕ → ℕ
row_in w P i n = i + min n (reach w P i)

-- "Our guarantee then lets each tunnel, or with `unit=1` each flow, show any row of the window": how many rows after row i
abbrev pub Choice : ℕ → Net → Plan → ℕ → Type 0
Choice w N P i = ℕ → ℕ

-- the amounts that a choice shows on link l
unfoldable pub shown : (w : ℕ) (N : Net) (P : Plan) (i l : ℕ) → Choice w N P i → ℕ → ℕ
shown w N P i l c m = on_link N l (row N P (row_in w P i (c m))) m

-- "It overloads a link when the amounts shown, taken in place of the worst amounts, break one of the two bounds."
unfoldable pub overloads : (w : ℕ) (N : Net) (P : Plan) (i l : ℕ) → Choice w N P i → Bound → Bool
overloads w N P i l c b = exceeds N b P.parts l (load N b (shown w N P i l c))

-- ---- the worst-load rule, its first breach, and the marks

-- the worst amounts break the bound
unfoldable pub worst_over : ℕ → Net → Plan → ℕ → ℕ → Bound → Bool
worst_over w N P i l b = exceeds N b P.parts l (load N b (worst w N P i l))

unfoldable pub first_overload : ℕ → Net → Plan → Option Overload
first_overload w N P = scan (step_count w N P) N.links (worst_over w N P)

-- "A plan is accepted exactly when its rows add up and every step meets the worst-load rule on every link."
unfoldable pub accepted : ℕ → Net → Plan → Bool
accepted w N P = is_none (missed_row N P) && is_none (first_overload w N P)

-- "a tunnel is 1 exactly if it crosses the named link" and "the largest exceeds that of row a"; "the mark falls on a flow's tunnels across the link"
unfoldable pub mark : ℕ → Net → Plan → Overload → ℕ → Bool
mark w N P o t =
    crosses N o.link t
    && ltb (on_link N o.link (row N P o.from) (mover_of N t)) (worst w N P o.from o.link (mover_of N t))

-- the movers of the tunnels that s picks
unfoldable pub movers_of : Net → (ℕ → Bool) → ℕ → Bool
movers_of N s m = not (is_none (first N.tunnels (λ t. only_if (s t && eqb (mover_of N t) m) t)))

-- the choice in which those movers show a row where they put the most on link l, "the rest at row a"
unfoldable pub at_largest : (w : ℕ) (N : Net) (P : Plan) (i l : ℕ) → (ℕ → Bool) → Choice w N P i
at_largest w N P i l s m = cond (movers_of N s m) (peak_at (reach w P i) (λ k. on_link N l (row N P (i + k)) m)) 0

-- "the marked ones overload the named link at their largest, the rest at row a"
unfoldable pub marked : (w : ℕ) (N : Net) (P : Plan) (o : Overload) → Choice w N P o.from
marked w N P o = at_largest w N P o.from o.link (mark w N P o)
