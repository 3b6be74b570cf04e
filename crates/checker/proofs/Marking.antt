-- Laws of the list of marks.
use Prim.Native.Nat.{ℕ, zero, suc, ◌+◌, ◌-◌, ◌*◌, ◌≤◌, ◌<◌, min, max}
use mathlib.Core.Path.{◌≡◌, refl, sym, ap, ap₂, ◌∙◌}
use mathlib.Core.Bool.{Bool, true, false, cond, ◌&&◌}
use mathlib.Core.List.{List, ◌∷◌, ◌++◌}
use native.Mathlib.Omega.{arith}
use native.Mathlib.Nat.{le_trans, add-zero, sub_self, min-eq_left}
use native.Mathlib.Numerals.{add-one}
use lib.Dec.{ltb}
use lib.ListN.{length, take, drop, replicate, get_or, set, length-set, length-take}
use Rattle.model.specs.Limits.{most_flows, most_steps, most_amount}
use Rattle.model.specs.Listed.{listed}
use Rattle.model.specs.Sets.{in_set}
use Rattle.model.specs.Largest.{largest}
use Rattle.model.specs.Net.{Net, Plan, row}
use Rattle.model.specs.Scan.{Bound}
use Rattle.model.specs.Rule.{by_flow, crosses, across, flow_sum, step_count, reach, mark}
use Rattle.model.proofs.Listed.{listed-front}
use Rattle.model.proofs.Searches.{cond-most}
use Rattle.model.proofs.Gathered.{mark-by-tunnel, mark-by-flow}
use Rattle.judges.specs.Sums.{Gathered}
use Rattle.judges.proofs.Gathering.{gathered-all}
use Rattle.lists.specs.Lists.{network_sizes, network_of, plan_sizes, plan_of}
use Rattle.loads.proofs.Vectors.{at_same, at_other, last_or}
use Rattle.amounts.specs.Rows.{Checkable}
use Rattle.amounts.proofs.Good.{row_small}
use Rattle.amounts.proofs.Windows.{window-in, window-reach}
use Rattle.checker.specs.Inner.{marks_of, InPlan, Raised, LargestSums}

-- what a tunnel puts on a link, by its set and its amount
pub across-of : (N : Net) (l t via amount v : ℕ) (x : ℕ → ℕ) → via ≡ N.via t → amount ≡ x t → v ≡ cond (in_set via l) amount 0 → v ≡ across N l x t
unfolding across crosses
across-of N l t via amount v x hv hx e = e ∙ ap₂ (λ (s y : ℕ). cond (in_set s l) y 0) hv hx

pub across-small : (n p : List ℕ) → Checkable n p → (a l t : ℕ) → a ≤ (plan_sizes p).steps → t < (network_sizes n).tunnels
    → across (network_of n) l (row (network_of n) (plan_of p) a) t ≤ most_amount * most_steps
unfolding across
across-small n p k a l t ha ht = le_trans (cond-most (crosses (network_of n) l t) (row (network_of n) (plan_of p) a t)) (row_small n p k a t ha ht)

-- the gathered sum of a tunnel's flow
pub sum_of : (n : List ℕ) (x : ℕ → ℕ) (s : List ℕ) (t f : ℕ) → Gathered (network_of n) x (network_of n).tunnels s → f ≡ (network_of n).flow t → f < most_flows
    → get_or s f 0 ≡ flow_sum (network_of n) x ((network_of n).flow t)
sum_of n x s t f g e h = gathered-all (network_of n) x s f g h ∙ ap (flow_sum (network_of n) x) e

-- ---- the largest amount, and the largest sums

pub largest-none : (f : ℕ → ℕ) (v : ℕ) → v ≡ f 0 → v ≡ largest 0 f
unfolding largest
largest-none f v e = e

pub largest-more : (k : ℕ) (f : ℕ → ℕ) (u v x : ℕ) → u ≡ largest k f → x ≡ f (k + 1) → v ≡ max u x → v ≡ largest (k + 1) f
unfolding largest
largest-more k f u v x h e d = rw (add-one k) (d ∙ ap₂ max h (e ∙ ap f (add-one k)))

-- the next row after row a, in those from row i on
next-row : (i a : ℕ) → i ≤ a → (a + 1 - i ≡ (a - i) + 1) × (i + (a - i + 1) ≡ a + 1)
next-row i a h = (omega arith, omega arith)

pub largest-next : (i a : ℕ) (f : ℕ → ℕ) (u v x : ℕ) → i ≤ a → u ≡ largest (a - i) (λ k. f (i + k)) → x ≡ f (a + 1) → v ≡ max u x → v ≡ largest (a + 1 - i) (λ k. f (i + k))
largest-next i a f u v x h e d m = let n = next-row i a h in rw n.0 (largest-more (a - i) (λ k. f (i + k)) u v x e (d ∙ ap f (sym n.1)) m)

pub largest-first : (i : ℕ) (f : ℕ → ℕ) (v : ℕ) → v ≡ f i → v ≡ largest (i - i) (λ k. f (i + k))
largest-first i f v e = rw (sub_self i) (largest-none (λ k. f (i + k)) v (e ∙ ap f (sym (add-zero i))))

pub record Raising (f : ℕ) (sums s s₁ : List ℕ) : Type 0 where
  pub size : length s₁ ≡ length s
  pub done : (g : ℕ) → g < f → get_or s₁ g 0 ≡ max (get_or s g 0) (get_or sums g 0)
  pub rest : (g : ℕ) → f ≤ g → get_or s₁ g 0 ≡ get_or s g 0

module _ (sums s : List ℕ) where
  pub raising-none : Raising 0 sums s s
  raising-none = record { size = refl; done = λ g h. absurd (omega arith); rest = λ g h. refl }

  pub raising-more : (f v : ℕ) (s₁ : List ℕ) → f < length s₁ → v ≡ max (get_or s₁ f 0) (get_or sums f 0) → Raising f sums s s₁ → Raising (f + 1) sums s (set s₁ f v)
  raising-more f v s₁ h e a = record {
    size = length-set s₁ _ _ ∙ a.size;
    done = λ g hg.
        last_or g f hg
        (λ q. at_same s₁ f g v h q ∙ e ∙ ap (λ (x : ℕ). max x (get_or sums f 0)) (a.rest f (omega arith)) ∙ ap (λ (i : ℕ). max (get_or s i 0) (get_or sums i 0)) (sym q))
        (λ q. at_other s₁ f g v (λ z. omega arith) ∙ a.done g q);
    rest = λ g hg. at_other s₁ f g v (λ z. omega arith) ∙ a.rest g (omega arith);
  }

  pub raising-end : (f : ℕ) (s₁ : List ℕ) → most_flows ≤ f → Raising f sums s s₁ → Raised sums s s₁
  raising-end f s₁ h a = record { size = a.size; each = λ g hg. a.done g (omega arith) }

module _ (n p : List ℕ) (i l : ℕ) where
  abbrev N : Net
  N = network_of n

  abbrev P : Plan
  P = plan_of p

  pub sums_first : (s : List ℕ) → Gathered N (across N l (row N P i)) N.tunnels s → LargestSums N P i l 0 s
  unfolding largest
  sums_first s g = record { size = g.size; each = λ f h. gathered-all N _ s f g h ∙ ap (λ (a : ℕ). flow_sum N (across N l (row N P a)) f) (sym (add-zero i)) }

  pub sums-next : (a : ℕ) (sums s s₁ : List ℕ) → i ≤ a → LargestSums N P i l (a - i) s → Gathered N (across N l (row N P (a + 1))) N.tunnels sums → Raised sums s s₁ → LargestSums N P i l (a + 1 - i) s₁
  sums-next a sums s s₁ b m g r = record {
    size = r.size ∙ m.size;
    each = λ f h. largest-next i a (λ b. flow_sum N (across N l (row N P b)) f) _ _ _ b (m.each f h) (gathered-all N _ sums f g h) (r.each f h);
  }

-- ---- a tunnel's mark, by its set and by its amounts or its flow's
module _ (w : ℕ) (N : Net) (P : Plan) (i l t via first most m : ℕ) (hi : i < step_count w N P) (hv : via ≡ N.via t)
    (e : m ≡ cond (in_set via l && ltb first most) 1 0) where
  abbrev marked : ℕ
  marked = cond (mark w N P (record { bound = Bound.protected; from = i; link = l }) t) 1 0

  mark_of : (u : ℕ) (f : ℕ → ℕ) → mark w N P (record { bound = Bound.protected; from = i; link = l }) t ≡ (crosses N l t && ltb u (largest (reach w P i) f)) → first ≡ u → most ≡ largest (min w P.steps) f → m ≡ marked
  unfolding crosses
  mark_of u f s he hl =
      e
      ∙ ap₂ (λ (a b : Bool). cond (a && b) 1 0) (ap (λ (v : ℕ). in_set v l) hv) (ap₂ ltb he (hl ∙ ap (λ (b : ℕ). largest b f) (sym (window-reach w N P i hi))))
      ∙ ap (λ (b : Bool). cond b 1 0) (sym s)

  pub mark-of-tunnel : by_flow N ≡ false → first ≡ row N P i t → most ≡ largest (min w P.steps) (λ k. row N P (i + k) t) → m ≡ marked
  mark-of-tunnel one he hl = mark_of _ _ (mark-by-tunnel N one w P _ t) he hl

  pub mark-of-flow : by_flow N ≡ true → first ≡ flow_sum N (across N l (row N P i)) (N.flow t) → most ≡ largest (min w P.steps) (λ k. flow_sum N (across N l (row N P (i + k))) (N.flow t)) → m ≡ marked
  mark-of-flow whole he hl = mark_of _ _ (mark-by-flow N whole w P _ t) he hl

-- the window is there
pub rows_in : (w : ℕ) (n p : List ℕ) (i l r : ℕ) → InPlan w n p i l → r ≡ min w (plan_sizes p).steps → i + r ≤ (plan_sizes p).steps
unfolding plan_of
rows_in w n p i l r k e = omega (arith, window-in w (network_of n) (plan_of p) i k.step, e)

pub row_in : (w : ℕ) (n p : List ℕ) (i l : ℕ) → InPlan w n p i l → i ≤ (plan_sizes p).steps
row_in w n p i l k = let h = rows_in w n p i l (min w (plan_sizes p).steps) k refl in omega (arith, h)

-- so many rows after the first are gone through
pub rows-through : (i a r m : ℕ) → i ≤ a → a ≤ i + r → i + r ≤ a → r ≡ m → a - i ≡ m
rows-through i a r m h k l e = omega arith

-- ---- the marks that are cleared

listed-zeros : (n : ℕ) → listed {A = ℕ} n (λ t. 0) ≡ replicate n 0
unfolding listed
listed-zeros zero = refl
listed-zeros (suc n) = listed-front {A = ℕ} n (λ t. 0) ∙ ap (λ (l : List ℕ). 0 ∷ l) (listed-zeros n)

pub all-clear : (n : ℕ) (marks s : List ℕ) → n ≤ length marks → s ≡ replicate (length (take n marks)) 0 → s ++ drop n marks ≡ marks_of (λ t. false) n ++ drop n marks
all-clear n marks s h f =
    let size : length (take n marks) ≡ n = length-take n marks ∙ min-eq_left h in
    let all : s ≡ listed {A = ℕ} n (λ t. 0) = f ∙ ap (λ (k : ℕ). replicate k 0) size ∙ sym (listed-zeros n) in
    ap (λ (l : List ℕ). l ++ drop n marks) all
