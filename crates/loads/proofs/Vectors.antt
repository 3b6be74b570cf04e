-- Laws of tables of vectors: what the loops that clear them and add to them prove at each turn.
use Prim.Native.Nat.{ℕ, ◌+◌, ◌*◌, ◌≤◌, ◌<◌}
use mathlib.Core.Path.{◌≡◌, refl, sym, ap, ◌∙◌, subst}
use mathlib.Core.Logic.{⊎_elim}
use mathlib.Core.Bool.{Bool, true, false, cond, ◌&&◌}
use mathlib.Core.List.{List}
use native.Mathlib.Omega.{arith}
use native.Mathlib.Nat.{add-zero, eq-or-lt_of_le, mul-le-mul_left}
use lib.Dec.{eqb}
use lib.ListN.{length, set}
use lib.Seq.{get_or-set_same, get_or-set_other}
use borrow.Author.Tests.{eq-eqb, ne_eqb, eqb-true, eqb-false}
use Rattle.model.proofs.Searches.{bool_cases, order, cond-most}
use Rattle.lists.specs.Lists.{at}
use Rattle.loads.specs.Tables.{block_rows, number_at, load_at, Addable, VectorAdded, AddableOn, AddedOn}

pub at_other : (s : List ℕ) (i j v : ℕ) → (j ≡ i → ⊥) → at (set s i v) j ≡ at s j
at_other s i j v h = get_or-set_other s i j v 0 h

pub at_same : (s : List ℕ) (i j v : ℕ) → i < length s → j ≡ i → at (set s i v) j ≡ v
at_same s i j v h e = ap (λ (k : ℕ). at (set s i v) k) e ∙ get_or-set_same s i v 0 h

-- the last of some numbers, or one before it
pub last_or : {C : Type 0} (t n : ℕ) → t < n + 1 → (t ≡ n → C) → (t < n → C) → C
last_or t n h f g = ⊎_elim f g (eq-or-lt_of_le {n = t} {m = n} (omega arith))

-- ---- a vector, added to another

pub record Adding (j k : ℕ) (x : ℕ → ℕ) (s s₁ : List ℕ) : Type 0 where
  pub size : length s₁ ≡ length s
  pub done : (i b : ℕ) → b < k → at s₁ (number_at i b) ≡ at s (number_at i b) + cond (eqb i j) (x b) 0
  pub rest : (i b : ℕ) → k ≤ b → b < block_rows → at s₁ (number_at i b) ≡ at s (number_at i b)

-- ---- vectors, added to those of a set's links

-- links that have the same vector are the same
same-link : (times on l z : ℕ) → on < times → times * l + on ≡ times * z + on → l ≡ z
same-link times on l z h e =
    ⊎_elim
    (λ (k : l ≤ z). ⊎_elim (λ q. q) (λ (g : l < z). absurd (omega (arith, mul-le-mul_left times g))) (eq-or-lt_of_le k))
    (λ (g : z < l). absurd (omega (arith, mul-le-mul_left times g)))
    (order l z)

vector-eqb : (times on l z : ℕ) → on < times → eqb (times * l + on) (times * z + on) ≡ eqb l z
vector-eqb times on l z h =
    ⊎_elim
    (λ e. eq-eqb (times * l + on) (times * z + on) (ap (λ (i : ℕ). times * i + on) (eqb-true l z e)) ∙ sym e)
    (λ e. ne_eqb (times * l + on) (times * z + on) (λ q. eqb-false l z e (same-link times on l z h q)) ∙ sym e)
    (bool_cases (eqb l z))

here-only : (x : ℕ → ℕ) (l z : ℕ) → cond (eqb l z) (x z) 0 ≡ cond (eqb l z) (x l) 0
here-only x l z =
    ⊎_elim
    (λ e. ap (λ (i : ℕ). cond (eqb l z) (x i) 0) (sym (eqb-true l z e)))
    (λ e. rw e refl)
    (bool_cases (eqb l z))

module _ (links times on : ℕ) (h : on < times) where
  -- one link more
  pub added_more : (c e : ℕ → Bool) (x : ℕ → ℕ → ℕ) (z : ℕ) (s s₁ s₂ : List ℕ) → z < links → AddedOn links c x times on s s₁ → VectorAdded (times * z + on) (x z) s₁ s₂
      → ((l y : ℕ) → cond (c l) y 0 + cond (eqb l z) y 0 ≡ cond (e l) y 0) → AddedOn links e x times on s s₂
  added_more c e x z s s₁ s₂ hz a b both = record {
    size = b.size ∙ a.size;
    here = λ l k hl hk.
        omega (
          arith,
          a.here l k hl hk,
          b.each (times * l + on) k hk,
          ap (λ (t : Bool). cond t (x z k) 0) (vector-eqb times on l z h),
          here-only (λ i. x i k) l z,
          both l (x l k),
        );
    others = λ j k hk o.
        b.each j k hk
        ∙ ap (λ (t : Bool). at s₁ (number_at j k) + cond t (x z k) 0) (ne_eqb j (times * z + on) (o z hz))
        ∙ add-zero _
        ∙ a.others j k hk o;
  }

  pub added_none : (x : ℕ → ℕ → ℕ) (s : List ℕ) → AddedOn links (λ l. false) x times on s s
  added_none x s = record { size = refl; here = λ l k hl hk. sym (add-zero _); others = λ j k hk o. refl }

  -- only the numbers of the links that are picked matter
  pub added-same : (c : ℕ → Bool) (x y : ℕ → ℕ → ℕ) (s s₁ : List ℕ) → ((l k : ℕ) → k < block_rows → c l ≡ true → x l k ≡ y l k) → AddedOn links c x times on s s₁ → AddedOn links c y times on s s₁
  added-same c x y s s₁ same a = record {
    size = a.size;
    here = λ l k hl hk.
        a.here l k hl hk
        ∙ ⊎_elim (λ e. rw e (ap (λ (v : ℕ). at s (number_at (times * l + on) k) + v) (same l k hk e))) (λ e. rw e refl) (bool_cases (c l));
    others = a.others;
  }

-- of the loads, one part
pub added-part : (links p : ℕ) (c : ℕ → Bool) (x : ℕ → ℕ → ℕ) (s s₁ : List ℕ) → p < 2 → AddedOn links c x 2 p s s₁ → (q l k : ℕ) → q < 2 → l < links → k < block_rows
    → at s₁ (load_at l q k) ≡ at s (load_at l q k) + cond (eqb p q && c l) (x l k) 0
added-part links p c x s s₁ hp a q l k hq hl hk =
    ⊎_elim
    (λ e. rw e (subst (λ (u : ℕ). at s₁ (load_at l u k) ≡ at s (load_at l u k) + cond (c l) (x l k) 0) (eqb-true p q e) (a.here l k hl hk)))
    (λ e. rw e (a.others (2 * l + q) k hk (λ z hz w. eqb-false p q e (omega arith)) ∙ sym (add-zero _)))
    (bool_cases (eqb p q))

-- a table of sums, which has one vector for each link
pub added-sum : (links : ℕ) (c : ℕ → Bool) (x : ℕ → ℕ → ℕ) (s s₁ : List ℕ) → AddedOn links c x 1 0 s s₁ → (l k : ℕ) → l < links → k < block_rows
    → at s₁ (number_at l k) ≡ at s (number_at l k) + cond (c l) (x l k) 0
added-sum links c x s s₁ a l k hl hk =
    let e : number_at l k ≡ number_at (1 * l + 0) k = omega arith in ap (at s₁) e ∙ a.here l k hl hk ∙ ap (λ (i : ℕ). at s i + cond (c l) (x l k) 0) (sym e)

-- what is left of a set can be added on its lowest link
pub addable : (links : ℕ) (amounts : List ℕ) (t via times on z : ℕ) (c : ℕ → Bool) (s s₁ : List ℕ) → z < links → AddableOn links amounts t via s times on
    → AddedOn links c (λ _ k. at amounts (number_at t k)) times on s s₁ → Addable amounts t s₁ (times * z + on)
addable links amounts t via times on z c s s₁ hz r a =
    let up : times * (z + 1) ≤ times * links = mul-le-mul_left times (omega arith) in
    record {
      source = r.source;
      target = record { few = omega (arith, r.target.few, r.few); room = omega (arith, r.target.room, r.few, a.size) };
      fits = λ k hk. omega (arith, r.fits z k hz hk, a.here z k hz hk, cond-most (c z) (at amounts (number_at t k)));
    }
