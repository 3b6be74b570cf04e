-- Laws of the tables: what the loops over a set of switches have done so far.
use Prim.Native.Nat.{ℕ, ◌+◌, ◌-◌, ◌*◌, ◌/◌, ◌^◌, ◌≤◌, ◌<◌}
use mathlib.Core.Path.{◌≡◌, refl, sym, ap, ◌∙◌}
use mathlib.Core.Logic.{◌≢◌, ⊎_elim}
use mathlib.Core.Bool.{true, false, cond, true≢false}
use mathlib.Core.List.{List}
use native.Mathlib.Nat.{mul-one, div-one}
use native.Mathlib.Decide.{dec_lt}
use native.Mathlib.Omega.{arith}
use lib.Bits.{bit_and, and_le_r}
use lib.Count.{count_trailing_zeros}
use lib.Dec.{eqb}
use lib.ListN.{length, set, length-set}
use lib.Seq.{get_or-set_same, get_or-set_other}
use borrow.Author.Tests.{le-leb, lt-leb, eqb-true, eqb-false, le-ltb}
use Rattle.model.specs.Sets.{in_set}
use Rattle.model.proofs.Sets.{digits-gone, none_left, next-from, next-set, next-below, next-within, next-left, passed, passed_on, passed_none, passed-all}
use Rattle.model.proofs.Searches.{bool_cases}
use Rattle.lists.specs.Lists.{at}
use Rattle.model.specs.Limits.{most_switches}
use Rattle.switches.specs.Inner.{Shifted, Shiftable, fits_all}
use Rattle.rules.proofs.Counts.{every-all, every-not}

pub and-less : (a b : ℕ) → b < a → bit_and a b < a
and-less a b h = omega (arith, and_le_r a b, h)

-- ---- is there room at each switch of a set?

-- so far there is at those below a switch, and those from it on are left
pub record Fitting (via unit more times : ℕ) (c x : List ℕ) (left : ℕ) : Type 0 where
  pub switch : ℕ
  pub left-from : left ≡ via / 2 ^ switch * 2 ^ switch
  pub each : (s : ℕ) → s < switch → in_set via s ≡ true → unit * (at c s + more) ≤ times * at x s

module _ (via unit more times : ℕ) (c x : List ℕ) where
  pub fitting-start : Fitting via unit more times c x via
  fitting-start = record { switch = 0; left-from = sym (mul-one _ ∙ div-one via); each = λ s h e. absurd (omega (arith, h)) }

  module _ (left : ℕ) (fits : via < 2 ^ 64) (some : left ≢ 0) (F : Fitting via unit more times c x left) where
    abbrev z : ℕ
    z = count_trailing_zeros 64 left

    pub fitting-on : unit * (at c z + more) ≤ times * at x z → Fitting via unit more times c x (bit_and left (left - 1))
    fitting-on h = record {
      switch = z + 1;
      left-from = next-left via F.switch left fits F.left-from some;
      each = each;
    }
      where
        each : (s : ℕ) → s < z + 1 → in_set via s ≡ true → unit * (at c s + more) ≤ times * at x s
        each s l e =
            elim (dec_lt s F.switch) [
              | yes k ↦ F.each s k e
              | no k ↦ elim (dec_lt s z) [
                | yes j ↦ absurd (true≢false (sym e ∙ next-below via F.switch left fits F.left-from some s (omega arith) j))
                | no j ↦ (let q : s ≡ z = omega arith in rw q h)
              ]
            ]

    pub fitting-not : times * at x z < unit * (at c z + more) → false ≡ fits_all via unit more times c x
    unfolding fits_all
    fitting-not h =
        sym
        (every-not most_switches _ z (next-within via F.switch left fits F.left-from some)
        (rw (next-set via F.switch left fits F.left-from some, lt-leb (unit * (at c z + more)) (times * at x z) h)))

  pub fitting-end : (left : ℕ) → Fitting via unit more times c x left → left ≡ 0 → true ≡ fits_all via unit more times c x
  unfolding fits_all
  fitting-end left F e =
      sym
      (every-all most_switches _
      (λ s h.
      ⊎_elim
      (λ (b : in_set via s ≡ true). rw b (le-leb _ _ (F.each s (below s b) b)))
      (λ (b : in_set via s ≡ false). rw b)
      (bool_cases (in_set via s))))
    where
      below : (s : ℕ) → in_set via s ≡ true → s < F.switch
      below s b =
          elim (dec_lt s F.switch) [
            | yes k ↦ k
            | no k ↦ absurd (true≢false (sym b ∙ ap (λ (d : ℕ). eqb d 1) (digits-gone via F.switch s (none_left via F.switch (sym F.left-from ∙ e)) (omega arith))))
          ]

-- ---- counts shifted at each switch of a set

-- so far those below a switch are, and those from it on are left
pub record Shifting (via more less : ℕ) (c : List ℕ) (left : ℕ) (c' : List ℕ) : Type 0 where
  pub switch : ℕ
  pub left-from : left ≡ via / 2 ^ switch * 2 ^ switch
  pub size : length c' ≡ length c
  pub each : (s : ℕ) → s < most_switches → at c' s + cond (passed via switch s) less 0 ≡ at c s + cond (passed via switch s) more 0

-- a store that shifts one number
store_at : (c : List ℕ) (i more less s : ℕ) → i < length c → less ≤ at c i + more
    → at (set c i (at c i + more - less)) s + cond (eqb s i) less 0 ≡ at c s + cond (eqb s i) more 0
store_at c i more less s h k =
    ⊎_elim
    (λ (e : eqb s i ≡ true). let same : s ≡ i = eqb-true s i e in rw e (rw same (omega (arith, get_or-set_same c i (at c i + more - less) 0 h, k))))
    (λ (e : eqb s i ≡ false). rw e (omega (arith, get_or-set_other c i s (at c i + more - less) 0 (eqb-false s i e))))
    (bool_cases (eqb s i))

module _ (via more less : ℕ) (c : List ℕ) where
  pub shifting-start : Shifting via more less c via c
  shifting-start =
      record { switch = 0; left-from = sym (mul-one _ ∙ div-one via); size = refl; each = λ s h. rw (← (passed_none via s)) refl }

  module _ (left : ℕ) (c' : List ℕ) (fits : via < 2 ^ 64) (some : left ≢ 0) (S : Shifting via more less c left c') (ok : Shiftable via more less c) where
    abbrev y : ℕ
    y = count_trailing_zeros 64 left

    pub next_low : y < most_switches
    next_low = next-within via S.switch left fits S.left-from some

    -- the number at the next switch is as it was, and can be shifted
    pub next-same : (at c' y ≡ at c y) × (less ≤ at c' y + more)
    next-same =
        let up = next-from via S.switch left fits S.left-from some in
        let ahead : passed via S.switch y ≡ false = rw (le-ltb y S.switch up) in
        let same : at c' y + 0 ≡ at c y + 0 = rw ahead at (S.each y next_low) in
        (omega (arith, same), omega (arith, same, ok.enough y next_low (next-set via S.switch left fits S.left-from some)))

    pub shifting-on : Shifting via more less c (bit_and left (left - 1)) (set c' y (at c' y + more - less))
    shifting-on = record {
      switch = y + 1;
      left-from = next-left via S.switch left fits S.left-from some;
      size = length-set c' y _ ∙ S.size;
      each =
          λ s h.
          let on = passed_on via S.switch y (next-from via S.switch left fits S.left-from some) (next-below via S.switch left fits S.left-from some) (next-set via S.switch left fits S.left-from some) s in
          let inside : y < length c' = omega (arith, next_low, S.size, ok.table.size) in
          omega (arith, on less, on more, S.each s h, store_at c' y more less s inside next-same.1);
    }

  pub shifting-end : (left : ℕ) (c' : List ℕ) → Shifting via more less c left c' → left ≡ 0 → Shifted via more less c c'
  shifting-end left c' S e = record {
    size = S.size;
    each = λ s h. rw (passed-all via S.switch (none_left via S.switch (sym S.left-from ∙ e)) s) at (S.each s h);
  }
