-- A network that keeps its scratch has an even plan within the step bound.
use Prim.Native.Nat.{ℕ, zero, suc, ◌+◌, ◌-◌, ◌*◌, ◌/◌, ◌≤◌, ◌<◌, min, max}
use mathlib.Core.Path.{◌≡◌, refl, sym, ap, subst}
use mathlib.Core.Logic.{◌≢◌, ◌⊎◌, inl, inr, ⊎_elim}
use mathlib.Core.Bool.{Bool, true, false, cond, ◌&&◌, true≢false}
use mathlib.Core.Option.{none, some}
use native.Mathlib.Omega.{arith}
use native.Mathlib.Nat.{le_refl, le_trans, le-max_left, le-max_right, max-le, max-eq_left, max-eq_right, mul-le-mul_left, mul-le-mul_right, lt-div-mul-add, div-mul-le_self, add-div_right}
use borrow.Author.Tests.{leb-true, eq-eqb, ne_eqb}
use lib.Dec.{leb, eqb}
use Rattle.model.specs.Limits.{most_steps}
use Rattle.model.specs.Net.{Net}
use Rattle.model.specs.Scan.{Bound}
use Rattle.model.specs.Rule.{on_link, load, accepted}
use Rattle.model.specs.Even.{even, fewest, ceil_div, step_bound, lag_bound, leaves_scratch, keeps_scratch}
use Rattle.model.specs.ThreeSums.{old_load, new_load, peak_load, end_load}
use Rattle.model.specs.Claim.{Valid}
use Rattle.model.proofs.Searches.{only-true, only-some, only_none, first-none, first_some, first-least, none_true, not-false, and-true}
use Rattle.model.proofs.Movers.{load-mono, load-add}
use Rattle.model.proofs.Choices.{factor, room}
use Rattle.model.proofs.Evens.{either, even_accepted}
use Rattle.model.specs.Search.{only_if}

-- ---- what is rounded up

pub ceil-ge : (a b : ℕ) → 0 < b → a ≤ ceil_div a b * b
unfolding ceil_div
ceil-ge a b h = omega (arith, lt-div-mul-add {a = a + (b - 1)} h)

ceil-lt : (a b : ℕ) → 0 < b → ceil_div a b * b < a + b
unfolding ceil_div
ceil-lt a b h = omega (arith, div-mul-le_self (a + (b - 1)) b)

-- 1000 in pieces of 20 or more are at most 50 pieces
pub ceil-most : (b : ℕ) → 20 ≤ b → ceil_div 1000 b ≤ most_steps
ceil-most b h =
    let pos : 0 < b = omega arith in
    let n : ¬ (51 ≤ ceil_div 1000 b) = λ g. omega (arith, mul-le-mul_right b g, ceil-lt 1000 b pos) in omega arith

-- and in pieces of 500 or less at least 2
pub ceil-least : (b : ℕ) → 0 < b → b ≤ 500 → 2 ≤ ceil_div 1000 b
ceil-least b pos h = let n : ¬ (ceil_div 1000 b ≤ 1) = λ g. omega (arith, mul-le-mul_right b g, ceil-ge 1000 b pos) in omega arith

-- ---- what makes q steps enough at a lag of w

record Enough (w s o q : ℕ) : Type 0 where
  pos : 0 < q
  scratch : 1000 * w ≤ (q + w) * s
  overrun : (o ≡ 0) ⊎ (1000 * w ≤ q * o)

scratch-enough : (w s q : ℕ) → 1 ≤ w → (20 ≤ s) × (s ≤ 500) → ceil_div (w * (1000 - s)) s ≤ q → (0 < q) × (1000 * w ≤ (q + w) * s)
scratch-enough w s q hw hs h =
    let e : (1000 - s) + s ≡ 1000 = omega arith in
    let g : w * (1000 - s) ≤ q * s = le_trans (ceil-ge (w * (1000 - s)) s (omega arith)) (mul-le-mul_right s h) in
    let f : 1000 * w ≤ (q + w) * s = omega (arith, ap (λ (k : ℕ). w * k) e) in
    let nz : ¬ (q ≤ 0) = λ z. omega (arith, mul-le-mul_right s z, mul-le-mul_left w hs.1) in
    (omega arith, f)

enough : (w s o : ℕ) → 1 ≤ w → (20 ≤ s) × (s ≤ 500) → Enough w s o (lag_bound w s o)
unfolding lag_bound
enough w s zero hw hs = let k = scratch-enough w s _ hw hs (le_refl _) in record { pos = k.0; scratch = k.1; overrun = inl refl }
enough w s (suc o) hw hs =
    let j : ℕ = ceil_div (1000 * w) (suc o) in
    let k = scratch-enough w s _ hw hs (le-max_left _ j) in
    record {
      pos = k.0;
      scratch = k.1;
      overrun = inr (le_trans (ceil-ge (1000 * w) (suc o) (omega arith)) (mul-le-mul_right (suc o) (le-max_right (ceil_div (w * (1000 - s)) s) j)));
    }

-- ---- what keeping scratch says of the larger of the old and the new load

larger-within : (k o n B : ℕ) → k * o ≤ B → k * n ≤ B → k * max o n ≤ B
larger-within k o n B ho hn = ⊎_elim (λ (g : n ≤ o). rw (max-eq_left g) ho) (λ (g : o ≤ n). rw (max-eq_right g) hn) (either n o)

three-parts : (p b c d : Bool) → (p && cond b c d) ≡ true → (p ≡ true) × (b ≡ true → c ≡ true) × (b ≡ false → d ≡ true)
three-parts true true c d e = (refl, λ _. e, λ f. absurd (true≢false f))
three-parts true false c d e = (refl, λ f. absurd (true≢false (sym f)), λ _. e)
three-parts false b c d e = absurd (true≢false (sym e))

-- the three bounds of a link, for amounts that leave its scratch free
left : (N : Net) (x : ℕ → ℕ) (l : ℕ) → leaves_scratch N x l ≡ true
    → (1000 * load N Bound.protected (on_link N l x) ≤ (1000 - N.scratch) * N.cap l)
    × (N.overrun ≡ 0 → 1000 * load N Bound.total (on_link N l x) ≤ (1000 - N.scratch) * N.cap l)
    × (N.overrun ≢ 0 → load N Bound.total (on_link N l x) ≤ N.cap l)
unfolding leaves_scratch
left N x l e =
    let p : ℕ = load N Bound.protected (on_link N l x) in
    let a : ℕ = load N Bound.total (on_link N l x) in
    let B : ℕ = (1000 - N.scratch) * N.cap l in
    let s = three-parts (leb (1000 * p) B) (eqb N.overrun 0) (leb (1000 * a) B) (leb a (N.cap l)) e in
    (leb-true (1000 * p) B s.0, λ z. leb-true (1000 * a) B (s.1 (eq-eqb _ _ z)), λ z. leb-true a (N.cap l) (s.2 (ne_eqb _ _ z)))

module _ (N : Net) (k : keeps_scratch N ≡ true) (l : ℕ) (hl : l < N.links) where
  leaves : (leaves_scratch N N.old l ≡ true) × (leaves_scratch N N.new l ≡ true)
  unfolding keeps_scratch
  leaves = and-true _ _ (not-false _ (only_none _ _ (first-none _ N.links (none_true _ k) l hl)))

  leaves-protected : 1000 * max (old_load N Bound.protected l) (new_load N Bound.protected l) ≤ (1000 - N.scratch) * N.cap l
  unfolding old_load new_load
  leaves-protected = larger-within 1000 _ _ _ (left N N.old l leaves.0).0 (left N N.new l leaves.1).0

  leaves-total : N.overrun ≡ 0 → 1000 * max (old_load N Bound.total l) (new_load N Bound.total l) ≤ (1000 - N.scratch) * N.cap l
  unfolding old_load new_load
  leaves-total z = larger-within 1000 _ _ _ ((left N N.old l leaves.0).1 z) ((left N N.new l leaves.1).1 z)

  leaves-fits : N.overrun ≢ 0 → max (old_load N Bound.total l) (new_load N Bound.total l) ≤ N.cap l
  unfolding old_load new_load
  leaves-fits z = max-le ((left N N.old l leaves.0).2 z) ((left N N.new l leaves.1).2 z)

-- ---- the load at the ends is at most q + w times the larger of the old and the new load

end-least : (w : ℕ) (N : Net) (b : Bound) (q l : ℕ) → end_load w N b q l ≤ (q + w) * max (old_load N b l) (new_load N b l)
unfolding end_load old_load new_load peak_load
end-least w N b q l =
    let o : ℕ → ℕ = on_link N l N.old in
    let n : ℕ → ℕ = on_link N l N.new in
    let X : ℕ = max (load N b o) (load N b n) in
    let p : load N b (λ m. max (o m) (n m)) ≤ load N b (λ m. o m + n m) = load-mono N b (λ m. omega arith) in
    let two : load N b (λ m. max (o m) (n m)) ≤ 2 * X = omega (arith, p, load-add N b o n) in
    let e : (q - min w q) + 2 * min w q ≤ q + w = omega arith in
    omega (arith, mul-le-mul_left (min w q) two, mul-le-mul_right X e)

within : (k B j X u : ℕ) → u ≤ j * X → k * X ≤ B → k * u ≤ j * B
within k B j X u hu hx = omega (arith, mul-le-mul_left k hu, mul-le-mul_left j hx)

room-scratch : (w s q C : ℕ) → s ≤ 1000 → 1000 * w ≤ (q + w) * s → (q + w) * ((1000 - s) * C) ≤ 1000 * (q * C)
room-scratch w s q C hs h =
    let e : (1000 - s) + s ≡ 1000 = omega arith in
    let f : (q + w) * (1000 - s) ≤ 1000 * q = omega (arith, ap (λ (k : ℕ). (q + w) * k) e) in
    omega (arith, mul-le-mul_right C f)

room-overrun : (w o q C : ℕ) → 1000 * w ≤ q * o → 1000 * ((q + w) * C) ≤ (1000 + o) * (q * C)
room-overrun w o q C h = omega (arith, mul-le-mul_right C h)

module _ (w : ℕ) (N : Net) (q : ℕ) (pos : 1 ≤ w) (k : keeps_scratch N ≡ true) (hs : N.scratch ≤ 1000) (en : Enough w N.scratch N.overrun q) (l : ℕ) (hl : l < N.links) where
  scratch-room : (b : Bound) → 1000 * max (old_load N b l) (new_load N b l) ≤ (1000 - N.scratch) * N.cap l → 1000 * end_load w N b q l ≤ 1000 * (q * N.cap l)
  scratch-room b h =
      le_trans (within 1000 _ (q + w) _ _ (end-least w N b q l) h) (room-scratch w N.scratch q (N.cap l) hs en.scratch)

  total-room : (N.overrun ≡ 0) ⊎ (1000 * w ≤ q * N.overrun) → 1000 * end_load w N Bound.total q l ≤ (1000 + N.overrun) * (q * N.cap l)
  total-room (inl z) = omega (arith, scratch-room Bound.total (leaves-total N k l hl z), ap (λ (o : ℕ). (1000 + o) * (q * N.cap l)) z)
  total-room (inr h) =
      let nz : N.overrun ≢ 0 = λ z. omega (arith, ap (λ (o : ℕ). q * o) z) in
      omega (arith, within 1 (N.cap l) (q + w) _ _ (end-least w N Bound.total q l) (omega (arith, leaves-fits N k l hl nz)), room-overrun w N.overrun q (N.cap l) h)

  ends-kept : (b : Bound) → factor b * end_load w N b q l ≤ q * room N b l
  unfolding factor room
  ends-kept Bound.protected = omega (arith, scratch-room Bound.protected (leaves-protected N k l hl))
  ends-kept Bound.total = omega (arith, total-room en.overrun)

-- ---- the fewest steps

module _ (w : ℕ) (N : Net) where
  -- the fewest even steps are 1 to 50, and their plan is accepted
  pub fewest-some : (q : ℕ) → fewest w N ≡ some q → (0 < q) × (q ≤ most_steps) × (accepted w N (even N q) ≡ true)
  unfolding fewest
  fewest-some q e =
      let s = first_some (λ i. only_if (accepted w N (even N (suc i))) (suc i)) most_steps q e in
      let o = only-some (accepted w N (even N (suc s.0))) (suc s.0) q s.2 in
      (omega (arith, o.1), omega (arith, s.1, o.1), subst (λ (k : ℕ). accepted w N (even N k) ≡ true) o.1 o.0)

  -- where there are none, no even plan of 1 to 50 steps is accepted
  pub fewest-none : fewest w N ≡ none → (q : ℕ) → 0 < q → q ≤ most_steps → accepted w N (even N q) ≡ false
  unfolding fewest
  fewest-none e zero h m = absurd (omega arith)
  fewest-none e (suc q) h m = only_none _ _ (first-none (λ i. only_if (accepted w N (even N (suc i))) (suc i)) most_steps e q m)

  -- an even plan that is accepted bounds them
  pub fewest-least : (q : ℕ) → 0 < q → q ≤ most_steps → accepted w N (even N q) ≡ true → (p : ℕ) × (fewest w N ≡ some p) × (p ≤ q)
  unfolding fewest
  fewest-least zero h m e = absurd (omega arith)
  fewest-least (suc q) h m e =
      let s = first-least (λ i. only_if (accepted w N (even N (suc i))) (suc i)) most_steps q (suc q) m (only-true (accepted w N (even N (suc q))) (suc q) e) in
      (s.2, s.4, omega (arith, s.1, (only-some (accepted w N (even N (suc s.0))) (suc s.0) s.2 s.3).1))

pub bounded : (w : ℕ) (N : Net) → 1 ≤ w → Valid N → keeps_scratch N ≡ true → lag_bound w N.scratch N.overrun ≤ most_steps
    → (q : ℕ) × (fewest w N ≡ some q) × (accepted w N (even N q) ≡ true) × (q ≤ lag_bound w N.scratch N.overrun)
bounded w N pos v k most =
    let en = enough w N.scratch N.overrun pos v.scratch in
    let small : N.scratch ≤ 1000 = omega (arith, v.scratch) in
    let f = fewest-least w N _ en.pos most ((even_accepted w N v.sums _).1 (ends-kept w N _ pos k small en)) in
    (f.0, f.1, (fewest-some w N f.0 f.1).2, f.2)

-- ---- at a lag of 1

-- ceil((1000 - scratch)/scratch) is ceil(1000/scratch) - 1
ceil-less : (s : ℕ) → 0 < s → s ≤ 1000 → ceil_div (1 * (1000 - s)) s ≡ ceil_div 1000 s - 1
unfolding ceil_div
ceil-less s pos h =
    let n : ℕ = 1 * (1000 - s) + (s - 1) in
    let e : 1000 + (s - 1) ≡ n + s = omega arith in
    omega (arith, ap (λ (k : ℕ). k / s) e, add-div_right n pos)

pub bound-today : (s o : ℕ) → 0 < s → s ≤ 1000 → lag_bound 1 s o ≡ step_bound s o
unfolding lag_bound step_bound
bound-today s zero pos h = ceil-less s pos h
bound-today s (suc o) pos h = ap (λ (k : ℕ). max k (ceil_div 1000 (suc o))) (ceil-less s pos h)

-- the step bound is never more than 50
pub bound-most : (s o : ℕ) → 20 ≤ s → (o ≡ 0) ⊎ ((20 ≤ o) × (o ≤ 500)) → step_bound s o ≤ most_steps
unfolding step_bound
bound-most s zero hs ho = omega (arith, ceil-most s hs)
bound-most s (suc o) hs (inl e) = absurd (omega arith)
bound-most s (suc o) hs (inr ho) = omega (arith, ceil-most s hs, ceil-most (suc o) ho.0)

pub bounded-today : (N : Net) → Valid N → keeps_scratch N ≡ true
    → (q : ℕ) × (fewest 1 N ≡ some q) × (accepted 1 N (even N q) ≡ true) × (q ≤ step_bound N.scratch N.overrun)
bounded-today N v k =
    let e : lag_bound 1 N.scratch N.overrun ≡ step_bound N.scratch N.overrun = bound-today N.scratch N.overrun (omega (arith, v.scratch)) (omega (arith, v.scratch)) in
    let r = bounded 1 N (omega arith) v k (omega (arith, e, bound-most N.scratch N.overrun v.scratch.0 v.overrun)) in
    (r.0, r.1, r.2, omega (arith, e, r.3))
