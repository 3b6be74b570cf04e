-- The even plan's worst loads by three sums, when it is accepted, and where it overloads first.
use Prim.Native.Nat.{ℕ, suc, ◌+◌, ◌-◌, ◌*◌, ◌≤◌, ◌<◌, min, max}
use mathlib.Core.Path.{◌≡◌, ap, ap₂, ◌∙◌}
use mathlib.Core.Logic.{◌↔◌, ◌⊎◌, inl, inr, ⊎_elim}
use mathlib.Core.Bool.{true}
use mathlib.Core.Option.{none}
use native.Mathlib.Omega.{arith}
use native.Mathlib.Decide.{dec_le}
use native.Mathlib.Nat.{le-max_left, le-max_right, max-eq_left, max-eq_right, mul-le-mul_left}
use Rattle.model.specs.Largest.{largest}
use Rattle.model.specs.Net.{Net, row}
use Rattle.model.specs.Scan.{Bound, scan}
use Rattle.model.specs.Rule.{on_link, load, exceeds, missed_rate, step_count, reach, worst, worst_over, first_overload, accepted}
use Rattle.model.specs.Even.{even_row, even}
use Rattle.model.specs.ThreeSums.{old_load, new_load, peak_load, step_load, end_load, ThreeSums}
use Rattle.model.proofs.Largests.{largest-line}
use Rattle.model.proofs.Scans.{scan-cong}
use Rattle.model.proofs.Movers.{on_line, load-cong, load-add, load-mul}
use Rattle.model.proofs.Choices.{factor, room, kept-mono, kept-le, le-kept, none_kept, kept-none}
use Rattle.model.proofs.Rows.{accepted-both, even-row, even-at, even-adds-up}

pub either : (a b : ℕ) → (a ≤ b) ⊎ (b ≤ a)
either a b = elim (dec_le a b) [ yes h ↦ inl h | no h ↦ inr (omega arith) ]

-- ---- the worst load in a step

-- what a mover puts on a link in row a
pub even-on : (N : Net) (l q a m : ℕ) → a ≤ q → on_link N l (row N (even N q) a) m ≡ (q - a) * on_link N l N.old m + a * on_link N l N.new m
unfolding even_row
even-on N l q a m h = on_line N l (q - a) a _ N.old N.new (λ t. even-row N q a t h ∙ even-at q a (N.old t) (N.new t) h) m

-- all windows of an even plan are of the same length, within its rows
module _ (w : ℕ) (N : Net) (q i : ℕ) (h : i < step_count w N (even N q)) where
  even-reach : reach w (even N q) i ≡ min w q
  unfolding step_count reach even
  even-reach = omega arith

  even-end : i + min w q ≤ q
  unfolding step_count even
  even-end = omega arith

-- a window from row i has (q - i - m) × old + i × new in common, with m = min w q; the rest is old m times in the first row and new m times in the last
even-worst : (w : ℕ) (N : Net) (l q i m : ℕ) → i < step_count w N (even N q)
    → worst w N (even N q) i l m
    ≡ (q - (i + min w q)) * on_link N l N.old m + i * on_link N l N.new m + min w q * max (on_link N l N.old m) (on_link N l N.new m)
unfolding worst
even-worst w N l q i m h =
    let ends : i + min w q ≤ q = even-end w N q i h in
    ap (λ (n : ℕ). largest n (λ k. on_link N l (row N (even N q) (i + k)) m)) (even-reach w N q i h)
    ∙ largest-line _ q (on_link N l N.old m) (on_link N l N.new m) i (min w q) (λ k g. even-on N l q (i + k) m (omega arith)) ends

pub even-load : (w : ℕ) (N : Net) (b : Bound) (l q i : ℕ) → i < step_count w N (even N q) → load N b (worst w N (even N q) i l) ≡ step_load w N b q i l
unfolding step_load old_load new_load peak_load
even-load w N b l q i h =
    let o : ℕ → ℕ = on_link N l N.old in
    let n : ℕ → ℕ = on_link N l N.new in
    let d : ℕ = q - (i + min w q) in
    load-cong N b (λ m _. even-worst w N l q i m h)
    ∙ load-add N b (λ m. d * o m + i * n m) (λ m. min w q * max (o m) (n m))
    ∙ ap₂ ◌+◌ (load-add N b (λ m. d * o m) (λ m. i * n m) ∙ ap₂ ◌+◌ (load-mul N b d o) (load-mul N b i n)) (load-mul N b (min w q) (λ m. max (o m) (n m)))

pub even-overload : (w : ℕ) (N : Net) (q : ℕ)
    → first_overload w N (even N q) ≡ scan (suc (q - w)) N.links (λ i l b. exceeds N b q l (step_load w N b q i l))
unfolding first_overload step_count worst_over even
even-overload w N q = scan-cong (suc (q - w)) N.links _ _ (λ i l hi hl b. ap (exceeds N b q l) (even-load w N b l q i hi))

-- ---- it is linear in the step, so its largest stands at an end

between_ends : (q m i o n : ℕ) → i + m ≤ q → (q - (i + m)) * o + i * n ≤ (q - m) * max o n
between_ends q m i o n h =
    let e : (q - (i + m)) + i ≡ q - m = omega arith in
    omega (arith, ap (λ (k : ℕ). k * max o n) e, mul-le-mul_left (q - (i + m)) (le-max_left o n), mul-le-mul_left i (le-max_right o n))

end-most : (w : ℕ) (N : Net) (b : Bound) (l q i : ℕ) → i < step_count w N (even N q) → step_load w N b q i l ≤ end_load w N b q l
unfolding step_load end_load
end-most w N b l q i h = omega (arith, between_ends q (min w q) i (old_load N b l) (new_load N b l) (even-end w N q i h))

end-met : (w : ℕ) (N : Net) (b : Bound) (l q : ℕ) → (i : ℕ) × (i < step_count w N (even N q)) × (step_load w N b q i l ≡ end_load w N b q l)
unfolding step_load end_load step_count even
end-met w N b l q =
    let o : ℕ = old_load N b l in
    let n : ℕ = new_load N b l in
    let all_left : q - (0 + min w q) ≡ q - min w q = omega arith in
    let none_left : q - (q - w + min w q) ≡ 0 = omega arith in
    let last : q - w ≡ q - min w q = omega arith in
    ⊎_elim
    (λ (g : n ≤ o). (0, omega arith, rw (all_left, max-eq_left g) (omega arith)))
    (λ (g : o ≤ n). (q - w, omega arith, rw (none_left, max-eq_right g, last) (omega arith)))
    (either n o)

-- so no overload is found exactly if on each link the load at the ends keeps both bounds
pub even-kept : (w : ℕ) (N : Net) (q : ℕ)
    → (first_overload w N (even N q) ≡ none) ↔ ((l : ℕ) → l < N.links → (b : Bound) → factor b * end_load w N b q l ≤ q * room N b l)
unfolding worst_over even
even-kept w N q = (
  λ e l hl b.
      let m = end-met w N b l q in
      kept-le N b q l _ (rw (← m.2, ← even-load w N b l q m.0 m.1) (none_kept w N (even N q) e m.0 l m.1 hl b)),
  λ k. kept-none w N (even N q) (λ i l hi hl b.
      kept-mono N b q l (rw (even-load w N b l q i hi) (end-most w N b l q i hi)) (le-kept N b q l _ (k l hl b))),
)

pub even_accepted : (w : ℕ) (N : Net) → missed_rate N ≡ none → (q : ℕ)
    → (accepted w N (even N q) ≡ true) ↔ ((l : ℕ) → l < N.links → (b : Bound) → factor b * end_load w N b q l ≤ q * room N b l)
even_accepted w N e q = (
  λ a. (even-kept w N q).0 ((accepted-both w N (even N q)).0 a).1,
  λ k. (accepted-both w N (even N q)).1 (even-adds-up N q e, (even-kept w N q).1 k),
)

pub three-sums : ThreeSums
unfolding factor room
three-sums = record {
  accepted = λ w N e q. (
    λ a l hl. let k = (even_accepted w N e q).0 a l hl in (omega (arith, k Bound.protected), omega (arith, k Bound.total)),
    λ k. (even_accepted w N e q).1 (each w N q k),
  );
  overload = even-overload;
}
  where
    each : (w : ℕ) (N : Net) (q : ℕ)
        → ((l : ℕ) → l < N.links → (end_load w N Bound.protected q l ≤ q * N.cap l) × (1000 * end_load w N Bound.total q l ≤ (1000 + N.overrun) * (q * N.cap l)))
        → (l : ℕ) → l < N.links → (b : Bound) → factor b * end_load w N b q l ≤ q * room N b l
    each w N q k l hl Bound.protected = omega (arith, k l hl)
    each w N q k l hl Bound.total = omega (arith, k l hl)
