-- Laws of the judging of the switches, one after the other: none so far is too full, and what is spare at each is in the table.
use Prim.Native.Nat.{ℕ, ◌+◌, ◌-◌, ◌*◌, ◌≤◌, ◌<◌}
use mathlib.Core.Path.{◌≡◌, refl, sym, ap, ap₂, ◌∙◌}
use mathlib.Core.Logic.{⊎_elim}
use mathlib.Core.Bool.{Bool, true, false, cond}
use mathlib.Core.List.{List}
use mathlib.Core.Option.{none, some, some-ne-none, or_else}
use native.Mathlib.Nat.{mul-le-mul}
use native.Mathlib.Omega.{arith}
use lib.ListN.{length, set, replicate, length-set, length-replicate, get_or-replicate}
use lib.Seq.{get_or-set_same, get_or-set_other}
use lib.Dec.{ltb, eqb}
use borrow.Author.Tests.{ltb-false, eqb-true, eqb-false}
use Rattle.model.specs.Limits.{most_tunnels, most_switches, most_room}
use Rattle.model.specs.Search.{only_if, first}
use Rattle.model.specs.Outcome.{Place}
use Rattle.model.specs.declared.Cause.TheVariants.{Unfit as unfit}
use Rattle.model.proofs.Searches.{bool_cases, first-zero, first_on, first-at}
use Rattle.lists.specs.Lists.{at, table_sizes}
use Rattle.std.specs.Prelude.{Ok, Err, Some, None}
use Rattle.std.specs.declared.option.Option as code
use Rattle.lists.specs.Refusals.{refusal}
use Rattle.rules.specs.Rules.{Rules, keep, add, remove, is_kind, count, usable, spare}
use Rattle.rules.specs.Stage.{too_many, unfit_at, lowest_unfit}
use Rattle.rules.specs.Lists.{rules_of, GoodRules}
use Rattle.switches.specs.Inner.{Table, Counted, Kinds, unfit_by, Judged}
use Rattle.switches.proofs.Tallies.{counted-table}

pub record Judging (R : Rules) (n : ℕ) (x : List ℕ) : Type 0 where
  pub fits : first n (unfit_at R) ≡ none
  pub table : Table (1000 * most_room) x
  pub each : (s : ℕ) → s < n → at x s ≡ spare R s

pub judging-start : (R : Rules) (x : List ℕ) → x ≡ replicate most_switches 0 → Judging R 0 x
judging-start R x e = record {
  fits = first-zero (unfit_at R);
  table = record {
    size = ap length e ∙ length-replicate {A = ℕ} most_switches 0;
    most = λ s h. omega (arith, ap (λ (l : List ℕ). at l s) e, get_or-replicate {A = ℕ} most_switches s 0 0 h);
  };
  each = λ s h. absurd (omega (arith, h));
}

pub judging-end : (l x : List ℕ) (n : ℕ) → Judging (rules_of l) n x → n ≡ (table_sizes l).switches → Judged l (Ok tt) x
unfolding rules_of
judging-end l x n J e =
    let fit : lowest_unfit (rules_of l) ≡ none = rw e at J.fits in
    record { answer = rw fit; spares = λ _. record { table = J.table; each = λ s h. J.each s (omega (arith, h, e)) } }

-- ---- at switch s

abbrev spot : ℕ → ℕ → Place
spot s n = record { place = s; second = n }

abbrev which : Bool → Bool → code.Option ℕ
which a b = cond a (Some 0) (cond b (Some 1) None)

some-none : (n : ℕ) → Some n ≡ None → ⊥
some-none n e = let z : ◌≡◌ {A = ℕ} 0 1 = cc in omega (arith, z)

pick : (a b : Bool) (s n : ℕ) → Some n ≡ which a b → or_else (only_if a (spot s 0)) (only_if b (spot s 1)) ≡ some (spot s n)
unfolding only_if or_else
pick true b s n e = let z : n ≡ 0 = cc in rw z refl
pick false true s n e = let z : n ≡ 1 = cc in rw z refl
pick false false s n e = absurd (some-none n e)

pick-none : (a b : Bool) → None ≡ which a b → (a ≡ false) × (b ≡ false)
pick-none true b e = absurd (some-none 0 (sym e))
pick-none false true e = absurd (some-none 1 (sym e))
pick-none false false e = (refl, refl)

module _ (l kept adding removing : List ℕ) (g : GoodRules l) (K : Kinds l kept adding removing) (s : ℕ) (h : s < (table_sizes l).switches) where
  abbrev R : Rules
  R = rules_of l

  low : s < most_switches
  low = omega (arith, h, g.switches.1)

  counted : (p : ℕ → Bool) (c : List ℕ) → Counted R R.tunnels p c → (at c s ≡ count R p s) × (at c s ≤ most_tunnels)
  unfolding count rules_of
  counted p c C = (C.each s low, (counted-table R R.tunnels p c C g.tunnels).most s low)

  pub counts-most : (at kept s ≤ most_tunnels) × (at adding s ≤ most_tunnels) × (at removing s ≤ most_tunnels)
  counts-most = ((counted _ kept K.keeps).1, (counted _ adding K.enters).1, (counted _ removing K.leaves).1)

  -- the table of spares has room for this switch
  pub in-table : (x : List ℕ) → Judging R s x → s < length x
  in-table x J = omega (arith, low, J.table.size)

  pub in-counts : (s < length kept) × (s < length adding) × (s < length removing)
  in-counts = (omega (arith, low, K.keeps.size), omega (arith, low, K.enters.size), omega (arith, low, K.leaves.size))

  module _ (slack room : ℕ) (slack-is : slack ≡ R.slack) (room-is : room ≡ R.room s) where
    abbrev most : ℕ
    most = (1000 - slack) * room

    most-is : most ≡ usable R s
    unfolding usable
    most-is = ap₂ (λ (a b : ℕ). (1000 - a) * b) slack-is room-is

    pub usable-most : room ≤ most_room → (1000 - slack) * room ≤ 1000 * most_room
    usable-most r = let part : 1000 - slack ≤ 1000 = omega arith in mul-le-mul part r

    -- the test of a set is by its counts
    test-same : (other : ℕ) (c : List ℕ) → Counted R R.tunnels (is_kind R other) c → too_many R other s ≡ ltb most (1000 * (at kept s + at c s))
    unfolding too_many
    test-same other c C = rw (most-is, (counted _ kept K.keeps).0, (counted _ c C).0) refl

    module _ (x : List ℕ) (J : Judging R s x) where
      pub judging-not : (second : ℕ) → Some second ≡ unfit_by ((1000 - slack) * room) (at kept s) (at removing s) (at adding s) → Judged l (Err (refusal unfit s second)) x
      unfolding rules_of unfit_at unfit_by
      judging-not second e =
          let found : lowest_unfit R ≡ some (spot s second) = first-at (unfit_at R) s R.switches _ J.fits not-here h in
          record { answer = rw found; spares = λ z. absurd (some-ne-none (spot s second) (sym found ∙ z)) }
        where
          not-here : unfit_at R s ≡ some (spot s second)
          not-here = rw (test-same remove removing K.leaves, test-same add adding K.enters) (pick _ _ s second e)

      module _ (n : None ≡ unfit_by ((1000 - slack) * room) (at kept s) (at removing s) (at adding s)) where
        fit : (ltb most (1000 * (at kept s + at removing s)) ≡ false) × (ltb most (1000 * (at kept s + at adding s)) ≡ false)
        unfolding unfit_by
        fit = pick-none _ _ n

        pub kept-most : 1000 * at kept s ≤ (1000 - slack) * room
        kept-most = omega (arith, ltb-false most (1000 * (at kept s + at removing s)) fit.0)

        pub judging-on : room ≤ most_room → Judging R (s + 1) (set x s ((1000 - slack) * room - 1000 * at kept s))
        unfolding unfit_at only_if or_else spare
        judging-on r = record {
          fits = first_on (unfit_at R) s J.fits (rw (test-same remove removing K.leaves, test-same add adding K.enters, fit.0, fit.1));
          table = record { size = length-set x s _ ∙ J.table.size; most = small };
          each = each;
        }
          where
            stored : at (set x s (most - 1000 * at kept s)) s ≡ most - 1000 * at kept s
            stored = get_or-set_same x s (most - 1000 * at kept s) 0 (omega (arith, low, J.table.size))

            small : (u : ℕ) → u < most_switches → at (set x s (most - 1000 * at kept s)) u ≤ 1000 * most_room
            small u k =
                ⊎_elim
                (λ e. let q : u ≡ s = eqb-true u s e in rw q (omega (arith, stored, usable-most r)))
                (λ e. omega (arith, get_or-set_other x s u (most - 1000 * at kept s) 0 (eqb-false u s e), J.table.most u k))
                (bool_cases (eqb u s))

            each : (u : ℕ) → u < s + 1 → at (set x s (most - 1000 * at kept s)) u ≡ usable R u - 1000 * count R (is_kind R keep) u
            each u k =
                ⊎_elim
                (λ e. let q : u ≡ s = eqb-true u s e in rw q (stored ∙ ap₂ (λ (m n : ℕ). m - 1000 * n) most-is (counted _ kept K.keeps).0))
                (λ e. get_or-set_other x s u (most - 1000 * at kept s) 0 (eqb-false u s e) ∙ J.each u (omega (arith, k, eqb-false u s e)))
                (bool_cases (eqb u s))
