-- Laws of tables of counts.
use Prim.Native.Nat.{ℕ, ◌+◌, ◌≤◌}
use mathlib.Core.Path.{◌≡◌, refl, sym, ap, subst, ◌∙◌}
use mathlib.Core.Logic.{◌≢◌}
use mathlib.Core.Bool.{Bool, true, false, cond}
use mathlib.Core.List.{List}
use native.Mathlib.Omega.{arith}
use lib.ListN.{length, replicate, length-replicate, get_or-replicate}
use borrow.Author.Tests.{eq-eqb, ne_eqb}
use Rattle.model.specs.Limits.{most_tunnels, most_switches}
use Rattle.model.specs.Sets.{in_set}
use Rattle.model.proofs.Sums.{sum-zero, sum-take, sum-skip, sum_bound}
use Rattle.lists.specs.Lists.{at}
use Rattle.rules.specs.Rules.{Rules, is_kind, rule}
use Rattle.switches.specs.Inner.{Table, Counted, Shifted, Shiftable}

pub cond-zero : (b : Bool) → ◌≡◌ {A = ℕ} (cond b 0 0) 0
cond-zero true = refl
cond-zero false = refl

rule-le : (R : Rules) (s t : ℕ) → rule R s t ≤ 1
unfolding rule
rule-le R s t = go (in_set (R.via t) s)
  where
    go : (b : Bool) → cond b 1 0 ≤ 1
    go true = omega arith
    go false = omega arith

module _ (R : Rules) (n : ℕ) (p : ℕ → Bool) (c : List ℕ) where
  pub counted-zero : c ≡ replicate most_switches 0 → Counted R 0 p c
  counted-zero e = record {
    size = ap length e ∙ length-replicate {A = ℕ} most_switches 0;
    each = λ s h. ap (λ (l : List ℕ). at l s) e ∙ get_or-replicate most_switches s 0 0 h ∙ sym (sum-zero p (rule R s));
  }

  -- each count is one of tunnels
  pub counted-table : Counted R n p c → n ≤ most_tunnels → Table most_tunnels c
  counted-table C h = record { size = C.size; most = λ s l. omega (arith, C.each s l, sum_bound n p (rule R s) 1 (λ t _. rule-le R s t)) }

  pub counted-take : (c' : List ℕ) → Counted R n p c → p n ≡ true → Shifted (R.via n) 1 0 c c' → Counted R (n + 1) p c'
  unfolding rule
  counted-take c' C e S = record {
    size = S.size ∙ C.size;
    each = λ s h. omega (arith, S.each s h, C.each s h, sum-take n p (rule R s) e, cond-zero (in_set (R.via n) s));
  }

  pub counted_skip : Counted R n p c → p n ≡ false → Counted R (n + 1) p c
  counted_skip C e = record { size = C.size; each = λ s h. C.each s h ∙ sym (sum-skip n p (rule R s) e) }

  pub counted-to : (m : ℕ) → Counted R n p c → n ≡ m → Counted R m p c
  counted-to m C e = subst (λ (n : ℕ). Counted R n p c) e C

-- one more can be counted at each switch
pub one_more : (via : ℕ) (c : List ℕ) → Table most_tunnels c → Shiftable via 1 0 c
one_more via c T = record { table = T; small = omega arith; enough = λ s h e. omega arith }

-- ---- the tunnels of a kind: t is the next

module _ (R : Rules) (kind t : ℕ) (c : List ℕ) (C : Counted R t (is_kind R kind) c) where
  pub kind-take : (c' : List ℕ) → R.kind t ≡ kind → Shifted (R.via t) 1 0 c c' → Counted R (t + 1) (is_kind R kind) c'
  unfolding is_kind
  kind-take c' e S = counted-take R t (is_kind R kind) c c' C (eq-eqb _ kind e) S

  pub kind-skip : R.kind t ≢ kind → Counted R (t + 1) (is_kind R kind) c
  unfolding is_kind
  kind-skip e = counted_skip R t (is_kind R kind) c C (ne_eqb _ kind e)
