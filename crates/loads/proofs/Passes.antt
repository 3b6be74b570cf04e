-- Laws of a pass over the tunnels: what it has gathered after each, and that the gathered sums equal the rule's.
use Prim.Native.Nat.{ℕ, zero, suc, ◌+◌, ◌*◌, ◌^◌, ◌≤◌, ◌<◌}
use mathlib.Core.Path.{◌≡◌, refl, sym, ap, ap₂, ◌∙◌}
use mathlib.Core.Bool.{Bool, true, false, cond, ◌&&◌}
use mathlib.Core.List.{List}
use native.Mathlib.Omega.{arith}
use native.Mathlib.Nat.{le_trans, mul-le-mul_right}
use native.Mathlib.Numerals.{add-one}
use lib.Dec.{eqb, leb}
use lib.ListN.{length, replicate, length-replicate, get_or-replicate}
use Rattle.model.specs.Limits.{most_links, most_tunnels, most_steps, most_amount}
use Rattle.model.specs.Sets.{in_set}
use Rattle.model.specs.Sum.{sum_over}
use Rattle.model.proofs.Sums.{sum_both}
use Rattle.model.proofs.Searches.{cond-most}
use Rattle.lists.specs.Lists.{at}
use Rattle.loads.specs.Gathered.{added_on, gathered}
use Rattle.loads.specs.Tables.{number_at, load_at, amounts_size, loads_size, part_of, in_part, AmountTable, LoadsWithin, Cleared, AddableOn, AddedOn, Loads}
use Rattle.loads.proofs.Vectors.{added-part}

-- at first no tunnel has an amount
pub no-amounts : AmountTable most_tunnels (replicate amounts_size 0)
no-amounts = record {
  size = length-replicate {A = ℕ} amounts_size 0;
  within = λ t k ht hk. rw (get_or-replicate {A = ℕ} amounts_size (number_at t k) 0 0 (omega arith)) (omega arith);
}

cond-swap : (a b : Bool) (x : ℕ) → cond (a && b) x 0 ≡ cond b (cond a x 0) 0
cond-swap true true x = refl
cond-swap true false x = refl
cond-swap false true x = refl
cond-swap false false x = refl

module _ (via : ℕ → ℕ) (c : ℕ → Bool) (x : ℕ → ℕ) where
  pub gathered_none : (l : ℕ) → gathered via c x 0 l ≡ 0
  unfolding gathered
  gathered_none l = refl

  pub gathered-more : (n l : ℕ) → gathered via c x (n + 1) l ≡ gathered via c x n l + cond (c n && in_set (via n) l) (x n) 0
  unfolding gathered added_on
  gathered-more n l = rw (add-one n) (ap (λ (y : ℕ). gathered via c x n l + y) (sym (cond-swap (c n) (in_set (via n) l) (x n))))

  pub gathered-most : (n l most : ℕ) → ((t : ℕ) → t < n → x t ≤ most) → gathered via c x n l ≤ n * most
  gathered-most zero l most h = omega (arith, gathered_none l)
  gathered-most (suc n) l most h =
      omega (
        arith,
        gathered-most n l most (λ t k. h t (omega arith)),
        ap (λ (k : ℕ). gathered via c x k l) (add-one n),
        gathered-more n l,
        cond-most (c n && in_set (via n) l) (x n),
        h n (omega arith),
      )

  -- what a pass gathers on a link is the sum over the tunnels that cross it
  pub gathered-sum : (n l : ℕ) → gathered via c x n l ≡ sum_over n c (λ t. cond (in_set (via t) l) (x t) 0)
  unfolding gathered added_on sum_over
  gathered-sum zero l = refl
  gathered-sum (suc n) l = ap₂ ◌+◌ (gathered-sum n l) (sym (cond-swap (c n) (in_set (via n) l) (x n)) ∙ swap (c n) (in_set (via n) l))
    where
      swap : (a b : Bool) → cond (a && b) (x n) 0 ≡ cond a (cond b (x n) 0) 0
      swap true b = refl
      swap false b = refl

-- what counts on both sides alike is gathered alike
pub gathered-cong : (via via' : ℕ → ℕ) (c c' : ℕ → Bool) (x x' : ℕ → ℕ) (n l : ℕ) → ((t : ℕ) → t < n → via t ≡ via' t) → ((t : ℕ) → t < n → c t ≡ c' t) → ((t : ℕ) → t < n → x t ≡ x' t)
    → gathered via c x n l ≡ gathered via' c' x' n l
unfolding gathered added_on
gathered-cong via via' c c' x x' zero l hv hc hx = refl
gathered-cong via via' c c' x x' (suc n) l hv hc hx =
    rw (hv n (omega arith), hc n (omega arith), hx n (omega arith))
    (ap (λ (y : ℕ). y + cond (in_set (via' n) l) (cond (c' n) (x' n) 0) 0)
    (gathered-cong via via' c c' x x' n l (λ t h. hv t (omega arith)) (λ t h. hc t (omega arith)) (λ t h. hx t (omega arith))))

-- both parts together are all tunnels
pub part-cases : (b : Bool) (u : ℕ) → cond (eqb (cond b 0 1) 0) u 0 + cond (eqb (cond b 0 1) 1) u 0 ≡ u
part-cases true u = omega arith
part-cases false u = omega arith

pub gathered-parts : (via class x : ℕ → ℕ) (n l : ℕ) → gathered via (in_part class 0) x n l + gathered via (in_part class 1) x n l ≡ gathered via (λ t. true) x n l
unfolding in_part
gathered-parts via class x n l =
    ap₂ ◌+◌ (gathered-sum via (in_part class 0) x n l) (gathered-sum via (in_part class 1) x n l)
    ∙ sum_both n (in_part class 0) (in_part class 1) (λ t. true) _ (λ t u. part-cases (leb (class t) 1) u)
    ∙ sym (gathered-sum via (λ t. true) x n l)

module _ (links : ℕ) (via class : ℕ → ℕ) (amounts : List ℕ) where
  pub loads-none : (s₀ s : List ℕ) → length s₀ ≡ loads_size → Cleared (2 * links) s₀ s → Loads links via class 0 amounts s
  loads-none s₀ s h e = record {
    size = e.size ∙ h;
    each = λ q l k hq hl hk. e.each (load_at l q k) (omega arith) ∙ sym (gathered_none via (in_part class q) (λ t. at amounts (number_at t k)) l);
  }

  pub loads-more : (n v part : ℕ) (s s₁ : List ℕ) → v ≡ via n → (part ≡ part_of (class n)) × (part < 2) → Loads links via class n amounts s
      → AddedOn links (in_set v) (λ _ k. at amounts (number_at n k)) 2 part s s₁ → Loads links via class (n + 1) amounts s₁
  unfolding in_part
  loads-more n v part s s₁ e p g a = record {
    size = a.size ∙ g.size;
    each = λ q l k hq hl hk.
        added-part links part _ _ s s₁ p.1 a q l k hq hl hk
        ∙ ap₂ (λ (y o : ℕ). y + cond (eqb o q && in_set v l) (at amounts (number_at n k)) 0) (g.each q l k hq hl hk) p.0
        ∙ ap (λ (y : ℕ). gathered via (in_part class q) (λ t. at amounts (number_at t k)) n l + cond (eqb (part_of (class n)) q && in_set y l) (at amounts (number_at n k)) 0) e
        ∙ sym (gathered-more via (in_part class q) (λ t. at amounts (number_at t k)) n l);
  }

  pub loads-within : (n m most : ℕ) (s : List ℕ) → n ≤ m → n ≤ most → AmountTable m amounts → Loads links via class n amounts s → LoadsWithin links most s
  loads-within n m most s hm h small g = record {
    size = g.size;
    most = λ q l k hq hl hk.
        let b = gathered-most via (in_part class q) (λ t. at amounts (number_at t k)) n l (most_amount * most_steps) (λ t ht. small.within t k (omega arith) hk) in
        rw (g.each q l k hq hl hk) (le_trans b (mul-le-mul_right (most_amount * most_steps) h));
  }

  -- a tunnel's amounts can be added
  pub loads-room : (n t v part : ℕ) (s : List ℕ) → v ≡ via t → t < n → n ≤ most_tunnels → links ≤ most_links → part < 2 → v < 2 ^ links → AmountTable n amounts → Loads links via class t amounts s
      → AddableOn links amounts t v s 2 part
  loads-room n t v part s e ht hn few hp sets small g = record {
    few = (few, hp, omega arith);
    links_of = sets;
    source = record { few = omega arith; room = omega (arith, small.size) };
    target = record { few = omega arith; room = omega (arith, g.size) };
    fits = λ l k hl hk. omega (arith, (loads-within t n n s (omega arith) (omega arith) small g).most part l k hp hl hk, small.within t k ht hk);
  }
