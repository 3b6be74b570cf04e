-- The worst amounts stand for every choice: no choice shows more on a link, and the marked choice shows exactly as much.
use Prim.Native.Nat.{ℕ, ◌+◌, ◌*◌, ◌≤◌, ◌<◌, min}
use mathlib.Core.Path.{◌≡◌, sym, ap, ap₂, ◌∙◌, subst, fun_ext}
use mathlib.Core.Logic.{⊎_elim}
use mathlib.Core.Bool.{Bool, true, false, cond, ◌&&◌, true≢false}
use mathlib.Core.Option.{none, some}
use native.Mathlib.Omega.{arith}
use native.Mathlib.Nat.{add-zero, le_antisymm, min-le_right, mul-le-mul_left}
use borrow.Author.Tests.{ltb-true, ltb-false, lt-ltb, le-ltb}
use lib.Dec.{ltb}
use Rattle.model.specs.Largest.{largest, peak_at}
use Rattle.model.specs.Net.{Net, Plan, row}
use Rattle.model.specs.Scan.{Bound, Overload}
use Rattle.model.specs.Rule.{movers, on_link, load, exceeds, step_count, reach, worst, row_in, Choice, shown, overloads, worst_over, first_overload, mark, movers_of, at_largest, marked}
use Rattle.model.proofs.Searches.{bool_cases, option_cases}
use Rattle.model.proofs.Largests.{largest-ge, peak-in, peak-largest}
use Rattle.model.proofs.Windows.{row-in}
use Rattle.model.proofs.Movers.{mover-crosses, picked-mover, movers-same, load-mono, load-cong}
use Rattle.model.proofs.Scans.{scan-none, scan-some, none-scan}

ltb-mono : (a b c : ℕ) → b ≤ c → ltb a b ≡ true → ltb a c ≡ true
ltb-mono a b c h e = lt-ltb a c (omega (arith, ltb-true a b e))

-- ---- bounds go up with the loads

exceeds-mono : (N : Net) (b : Bound) (parts l : ℕ) {w v : ℕ} → w ≤ v → exceeds N b parts l w ≡ true → exceeds N b parts l v ≡ true
unfolding exceeds
exceeds-mono N Bound.protected parts l h e = ltb-mono (parts * N.cap l) _ _ h e
exceeds-mono N Bound.total parts l h e = ltb-mono ((1000 + N.overrun) * (parts * N.cap l)) _ _ (mul-le-mul_left 1000 h) e

-- a smaller load keeps a bound that a larger one keeps
pub kept-mono : (N : Net) (b : Bound) (parts l : ℕ) {w v : ℕ} → w ≤ v → exceeds N b parts l v ≡ false → exceeds N b parts l w ≡ false
kept-mono N b parts l {w} h e =
    ⊎_elim (λ q. absurd (true≢false (sym (exceeds-mono N b parts l h q) ∙ e))) (λ q. q) (bool_cases (exceeds N b parts l w))

-- a bound as an inequality: k times the load is at most the room
unfoldable pub factor : Bound → ℕ
factor Bound.protected = 1
factor Bound.total = 1000

unfoldable pub room : Net → Bound → ℕ → ℕ
room N Bound.protected l = N.cap l
room N Bound.total l = (1000 + N.overrun) * N.cap l

pub kept-le : (N : Net) (b : Bound) (parts l w : ℕ) → exceeds N b parts l w ≡ false → factor b * w ≤ parts * room N b l
unfolding exceeds factor room
kept-le N Bound.protected parts l w e = omega (arith, ltb-false (parts * N.cap l) w e)
kept-le N Bound.total parts l w e = omega (arith, ltb-false ((1000 + N.overrun) * (parts * N.cap l)) (1000 * w) e)

pub le-kept : (N : Net) (b : Bound) (parts l w : ℕ) → factor b * w ≤ parts * room N b l → exceeds N b parts l w ≡ false
unfolding exceeds factor room
le-kept N Bound.protected parts l w h = le-ltb (parts * N.cap l) w (omega (arith, h))
le-kept N Bound.total parts l w h = le-ltb ((1000 + N.overrun) * (parts * N.cap l)) (1000 * w) (omega (arith, h))

-- ---- what is shown, and the worst amounts

pub shown-worst : (w : ℕ) (N : Net) (P : Plan) (i l : ℕ) (c : Choice w N P i) (m : ℕ) → shown w N P i l c m ≤ worst w N P i l m
unfolding shown row_in worst
shown-worst w N P i l c m =
    largest-ge (reach w P i) (λ k. on_link N l (row N P (i + k)) m) (min (c m) (reach w P i)) (min-le_right (c m) (reach w P i))

-- a mover whose largest amount on the named link exceeds that of the first row has a marked tunnel
module _ (w : ℕ) (N : Net) (P : Plan) (o : Overload) (m : ℕ) (h : m < movers N) where
  abbrev amount : ℕ → ℕ
  amount k = on_link N o.link (row N P (o.from + k)) m

  abbrev rises : ℕ → Bool
  rises k = ltb (on_link N o.link (row N P o.from) k) (worst w N P o.from o.link k)

  rises-marked : rises m ≡ true → movers_of N (mark w N P o) m ≡ true
  unfolding mark worst
  rises-marked r =
      let n : ℕ = reach w P o.from in
      let pos : 0 < amount (peak_at n amount) = omega (arith, peak-largest n amount, ltb-true (on_link N o.link (row N P o.from) m) (largest n amount) r) in
      let s = mover-crosses N o.link (row N P (o.from + peak_at n amount)) m h pos in
      subst (λ (k : ℕ). movers_of N (mark w N P o) k ≡ true) s.3
      (picked-mover N (mark w N P o) s.0 s.1 (ap₂ ◌&&◌ s.2 (ap rises s.3 ∙ r)))

  pub marked-worst : shown w N P o.from o.link (marked w N P o) m ≡ worst w N P o.from o.link m
  unfolding shown marked at_largest worst
  marked-worst =
      let n : ℕ = reach w P o.from in
      let at : ℕ → ℕ = λ a. on_link N o.link (row N P a) m in
      let chosen : Bool → ℕ = λ b. at (row_in w P o.from (cond b (peak_at n amount) 0)) in
      ⊎_elim
      (λ e. ap chosen e ∙ ap at (row-in w P o.from _ (peak-in n amount)) ∙ peak-largest n amount)
      (λ e.
      ap chosen e
      ∙ ap at (row-in w P o.from 0 (omega arith))
      ∙ le_antisymm (largest-ge n amount 0 (omega arith)) (omega (arith, ap at (add-zero o.from), ltb-false (at o.from) (largest n amount) (not-rises e))))
      (bool_cases (movers_of N (mark w N P o) m))
    where
      not-rises : movers_of N (mark w N P o) m ≡ false → rises m ≡ false
      not-rises e = ⊎_elim (λ r. absurd (true≢false (sym (rises-marked r) ∙ e))) (λ r. r) (bool_cases (rises m))

-- a choice by marks depends on those of the tunnels that there are
pub at_same : (w : ℕ) (N : Net) (P : Plan) (i l : ℕ) (s r : ℕ → Bool) → ((t : ℕ) → t < N.tunnels → s t ≡ r t) → at_largest w N P i l s ≡ at_largest w N P i l r
unfolding at_largest
at_same w N P i l s r h = fun_ext (λ m. ap (λ (b : Bool). cond b (peak_at (reach w P i) (λ k. on_link N l (row N P (i + k)) m)) 0) (movers-same N s r h m))

-- no choice shows more on a link than the worst load, and the marked choice shows exactly it
pub shown-load : (w : ℕ) (N : Net) (P : Plan) (i l : ℕ) (c : Choice w N P i) (b : Bound) → load N b (shown w N P i l c) ≤ load N b (worst w N P i l)
shown-load w N P i l c b = load-mono N b (shown-worst w N P i l c)

pub marked-load : (w : ℕ) (N : Net) (P : Plan) (o : Overload) (b : Bound)
    → load N b (shown w N P o.from o.link (marked w N P o)) ≡ load N b (worst w N P o.from o.link)
marked-load w N P o b = load-cong N b (marked-worst w N P o)

-- ---- no overload is found exactly if the worst amounts keep both bounds on each link in each step

pub none_kept : (w : ℕ) (N : Net) (P : Plan) → first_overload w N P ≡ none
    → (i l : ℕ) → i < step_count w N P → l < N.links → (b : Bound) → worst_over w N P i l b ≡ false
unfolding first_overload
none_kept w N P e = scan-none (step_count w N P) N.links (worst_over w N P) e

pub kept-none : (w : ℕ) (N : Net) (P : Plan)
    → ((i l : ℕ) → i < step_count w N P → l < N.links → (b : Bound) → worst_over w N P i l b ≡ false) → first_overload w N P ≡ none
unfolding first_overload
kept-none w N P h = none-scan (step_count w N P) N.links (worst_over w N P) h

-- ---- the claim, but for its last part

pub safe : (w : ℕ) (N : Net) (P : Plan) → first_overload w N P ≡ none
    → (i l : ℕ) → i < step_count w N P → l < N.links → (c : Choice w N P i) (b : Bound) → overloads w N P i l c b ≡ false
unfolding overloads worst_over
safe w N P e i l hi hl c b = kept-mono N b _ l (shown-load w N P i l c b) (none_kept w N P e i l hi hl b)

pub marked-overloads : (w : ℕ) (N : Net) (P : Plan) (o : Overload) → first_overload w N P ≡ some o
    → (o.from < step_count w N P) × (o.link < N.links) × (overloads w N P o.from o.link (marked w N P o) o.bound ≡ true)
unfolding overloads worst_over first_overload
marked-overloads w N P o e =
    let s = scan-some (step_count w N P) N.links (worst_over w N P) o e in (s.0, s.1, rw (marked-load w N P o o.bound) s.2)

pub found : (w : ℕ) (N : Net) (P : Plan) (i l : ℕ) → i < step_count w N P → l < N.links
    → (c : Choice w N P i) (b : Bound) → overloads w N P i l c b ≡ true → (o : Overload) × (first_overload w N P ≡ some o)
found w N P i l hi hl c b h =
    ⊎_elim (λ e. absurd (true≢false (sym h ∙ safe w N P e i l hi hl c b))) (λ r. r) (option_cases (first_overload w N P))
